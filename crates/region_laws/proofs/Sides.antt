-- Left sides in which no rule is broken: the name of a variable, or a sound part of one.
use Rattle.std.proofs.Common.{◌≡◌, ap, ℕ, ◌<◌, Bool, true, false, List, [], ◌++◌, Option, Some, None, arith}
use Rattle.std.proofs.lemmas.Bool.{true≢false}
use mathlib.Core.Former.{Count}
use Rattle.ws_base.specs.declared.name.Name.{Name}
use Rattle.ws_base.specs.declared.refusal.RefusalKind.TheVariants as refusal
use Rattle.ws_space.specs.declared.state.VarState.{VarState}
use Rattle.ws_tree.specs.Trees.{Subs}
use Rattle.ws_tree.specs.Grammatical.{HasSubs, AreSubs}
use Rattle.ws_types.specs.declared.types.Row.{Row}
use Rattle.ws_types.specs.declared.types.Standing.{Standing}
use Rattle.ws_types.specs.declared.types.Standing.TheVariants.{Declared, Active, Index, Barred}
use Rattle.ws_types.specs.declared.types.Typed.{Typed}
use Rattle.ws_types.specs.Kinds.{when}
use Rattle.ws_types.specs.Names.{standing_of, name_type, name_faults, is_constant, is_active, target_faults}
use Rattle.ws_types.specs.Expressions.{how_many, named_faults, subs_faults}
use Rattle.ws_types.specs.Operations.{is_other_number, part_faults}
use Rattle.ws_sema.proofs.NoFaults.{none_first, none_after, not_broken}
use Rattle.hlfir_ops.specs.declared.kinds.ValueKind.{ValueKind}
use Rattle.hlfir_ops.specs.declared.kinds.ValueKind.TheVariants as kind
use Rattle.hlfir_ops.specs.RulesValues.{rank_of}
use Rattle.lower_values.specs.declared.operand.Operand.{Operand}
use Rattle.lower_values.specs.References.{variable_of}
use Rattle.lower_values.specs.Scopes.{Scope, index_of}
use Rattle.kind_laws.specs.Standing.{Knows, EntryIsKnown, NameIsKnown}
use Rattle.kind_laws.proofs.TypedExpressions.{types_are_known}
use Rattle.kind_laws.proofs.ExpressionsMade.{kinds_are_types}
use Rattle.kind_laws.proofs.FormsMade.{some_subs}
use Rattle.sound_laws.proofs.NamesSound.{part-variable}
use Rattle.sound_laws.proofs.ExpressionsSound.{subscripts-sound}
use Rattle.value_laws.specs.Sound.{IsSoundPart, AreSoundSubs}
use Rattle.value_laws.specs.Variables.{Fits, IsNamed}

-- ---- whole variables

module _ (s : Scope) (x : Name) (line : ℕ) where
  abbrev pub IsVariableName : Type 0
  IsVariableName = (d : Operand) × (variable_of s.names.variables x ≡ Some d)

  no_target : (st : Option Standing) → target_faults line st ≡ [] → (is_constant st ≡ false) × (is_active st ≡ false)
  unfolding target_faults
  no_target st f = (
    not_broken (is_constant st) line _ (none_first (when (is_constant st) line _) (when (is_active st) line _) f),
    not_broken (is_active st) line _ (none_after (when (is_constant st) line _) (when (is_active st) line _) f),
  )

  entry_name : (c : Bool) (e : _) → c ≡ false → EntryIsKnown c s.names x e → IsVariableName
  entry_name true e is h = absurd (true≢false is)
  entry_name false e is h = (h.0, h.1)

  known_name : (st : Option Standing) → NameIsKnown s x st → name_faults line st ≡ [] → is_constant st ≡ false → is_active st ≡ false → IsVariableName
  unfolding name_faults
  known_name (Some (Declared e)) h f constant active = entry_name e.constant e constant h.1
  known_name (Some (Active e)) h f constant active = absurd (true≢false active)
  known_name (Some Index) h f constant active = absurd (true≢false active)
  known_name (Some Barred) h f constant active = absurd (true≢false (not_broken true line _ (none_after (when false line _) (when true line _) f)))
  known_name None h f constant active = absurd (true≢false (not_broken true line _ (none_first (when true line _) (when false line _) f)))

  pub variable-name : (st : Option Standing) → NameIsKnown s x st → name_faults line st ≡ [] → target_faults line st ≡ [] → IsVariableName
  variable-name st h f g = let no = no_target st g in known_name st h f no.0 no.1

-- ---- parts

part_none : (line : ℕ) (ty : Option Typed) (many : ℕ) → part_faults line ty many ≡ [] → is_other_number ty many ≡ false
unfolding part_faults
part_none line ty many h = not_broken (is_other_number ty many) line refusal.RankWrong h

pub part-sound : {k : Count} (t : List Row) (line : ℕ) (s : Scope) → Knows t s → s.indexes ≡ [] → (x : Name) (subs : Subs k) → HasSubs subs → AreSubs subs →
    (named_faults t line x ++ subs_faults t false line subs ++ part_faults line (name_type (standing_of t x)) (how_many subs)) ≡ [] → IsSoundPart true s x (how_many subs) (AreSoundSubs true s subs)
part-sound t line s knows none x subs some grammar f =
    let first = named_faults t line x in
    let second = subs_faults t false line subs in
    let third = part_faults line (name_type (standing_of t x)) (how_many subs) in
    let two = none_first (first ++ second) third f in
    let v = part-variable s x line (standing_of t x) (how_many subs) (knows x) (ap (λ is. index_of is x) none) (none_first first second two)
    (part_none line (name_type (standing_of t x)) (how_many subs) (none_after (first ++ second) third f)) (some_subs subs some) in
    (v.0, v.1, v.2, subscripts-sound types_are_known kinds_are_types t line s knows none subs grammar (none_after first second two))

-- what has subscripts is an array
named_by : (k : ValueKind) (held : VarState) → Fits k held → 0 < rank_of k → IsNamed k
named_by (kind.Place e) held h some = absurd (omega (arith, some))
named_by (kind.Declared e shape) held h some = tt
named_by (kind.Allocatable e rank) held h some = tt
named_by k held h some = absurd h

pub part-named : {m : Count} (subs : Subs m) → HasSubs subs → (k : ValueKind) (held : VarState) → Fits k held → rank_of k ≡ how_many subs → IsNamed k
part-named subs some k held h many = let few = some_subs subs some in named_by k held h (omega (arith, few, many))
