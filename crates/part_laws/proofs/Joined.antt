-- Expressions and left sides in which designators stand: what is known of expressions and of designators, put together.
use Rattle.std.proofs.Common.{◌≡◌, refl, sym, ap, ◌∙◌, subst, ℕ, zero, suc, ◌+◌, ◌≤◌, true, false, List, [], ◌∷◌, take, length, Some, arith}
use mathlib.Core.Former.{Count}
use Rattle.ws_base.specs.declared.name.Name.{Name}
use Rattle.ws_base.specs.Outcomes.{Staged, ◌>>=◌}
use Rattle.ws_space.specs.declared.shape.Dim.{Dim}
use Rattle.ws_space.specs.declared.state.ArrayValue.{ArrayValue}
use Rattle.ws_space.specs.declared.state.VarState.{VarState}
use Rattle.ws_space.specs.declared.state.VarState.TheVariants as state
use Rattle.ws_space.specs.Shapes.{dims}
use Rattle.ws_space.specs.Values.{state_of}
use Rattle.ws_tree.specs.declared.expr.Expr.{Expr}
use Rattle.ws_tree.specs.Trees.{Subs, end_subs, more_subs}
use Rattle.ws_types.specs.Expressions.{how_many}
use Rattle.array_meaning.specs.declared.world.World.{World}
use Rattle.array_meaning.specs.declared.term.Term.{Term}
use Rattle.array_meaning.specs.Stage1 as source
use Rattle.hlfir_ops.specs.declared.kinds.ValueKind.{ValueKind}
use Rattle.hlfir_ops.specs.declared.kinds.ValueKind.TheVariants as kind
use Rattle.hlfir_ops.specs.Numbers.{numbers_of}
use Rattle.hlfir_ops.specs.RulesValues.{rank_of}
use Rattle.hlfir_meaning.specs.Environments.{Environment}
use Rattle.hlfir_meaning.specs.Stage1.{stage1}
use Rattle.lower_values.specs.declared.operand.Operand.{Operand}
use Rattle.lower_values.specs.Scopes.{Scope}
use Rattle.lower_values.specs.Lowerings.{◌>>=◌ as ◌then◌}
use Rattle.lower_values.specs.References.{variable_of, or_nothing, declare_of, reference, loaded}
use Rattle.lower_values.specs.Values.{value, part_of, subscripts}
use Rattle.value_laws.specs.Standing.{Does, Stands}
use Rattle.value_laws.specs.Arguments as values
use Rattle.value_laws.specs.Laws.{PartsStand, Leaves}
use Rattle.value_laws.specs.Names.{DeclareStands, Agrees}
use Rattle.value_laws.specs.Sound.{IsSound, AreSoundSubs, IsClear, AreClearSubs}
use Rattle.value_laws.specs.Variables.{IsArrayOf, Fits, IsNamed}
use Rattle.value_laws.proofs.Expressions.{expression-if, subscripts-stand}
use Rattle.value_laws.proofs.Walking.{goes-weaker}
use Rattle.part_laws.specs.Parts.{IsPart, StandsUnnamed}
use Rattle.part_laws.specs.Subscripts.{AreWithin, DeclaresArray, SubscriptsFit}
use Rattle.part_laws.specs.Laws.{part_selected}
use Rattle.part_laws.specs.Joined.{HasSmallRanks}
use Rattle.part_laws.proofs.Parts.{does-part_of, does-part_loaded}
use Rattle.part_laws.proofs.Ready.{subs-ready}
use Rattle.part_laws.proofs.Scalarless.{scalar-faults}

-- ---- no more subscripts than dimensions

within : {k : _} (subs : Subs k) (ds : List Dim) → how_many subs ≤ length ds → AreWithin subs ds
within end_subs ds h = tt
within (more_subs x xs) [] h = absurd (omega (arith, h))
within (more_subs x xs) (d ∷ ds) h = within xs ds (omega (arith, h))

three_dims : (r : ℕ) (d e f : Dim) → r ≤ 3 → length (take r (d ∷ e ∷ f ∷ [])) ≡ r
three_dims zero d e f h = refl
three_dims (suc zero) d e f h = refl
three_dims (suc (suc zero)) d e f h = refl
three_dims (suc (suc (suc zero))) d e f h = refl
three_dims (suc (suc (suc (suc r)))) d e f h = absurd (omega (arith, h))

array_within : {k : _} (subs : Subs k) (rank : ℕ) (a : ArrayValue) → IsArrayOf rank a → rank ≡ how_many subs → rank ≤ 3 → AreWithin subs (dims a.shape)
array_within subs rank a fits many few =
    let small : a.shape.rank ≤ 3 = subst (λ r. r ≤ 3) (sym fits.same) few in
    let all = three_dims a.shape.rank a.shape.d1 a.shape.d2 a.shape.d3 small in
    let same = fits.same in
    within subs (dims a.shape) (omega (arith, all, many, same))

named_within : {k : _} (subs : Subs k) (kd : ValueKind) (held : VarState) → Fits kd held → rank_of kd ≡ how_many subs → rank_of kd ≤ 3 → (a : ArrayValue) → held ≡ state.Array a → AreWithin subs (dims a.shape)
named_within subs (kind.Declared e shape) held fits many few a is = array_within subs shape.rank a (subst (Fits (kind.Declared e shape)) is fits) many few
named_within subs (kind.Allocatable e rank) held fits many few a is = array_within subs rank a (subst (Fits (kind.Allocatable e rank)) is fits) many few
named_within subs (kind.Place e) held fits many few a is = absurd (subst (Fits (kind.Place e)) is fits)
named_within subs k held fits many few a is = absurd fits

-- ---- designators

module _ (vectors : List ℕ) (base : ℕ) (s : Scope) (w : World) (small : HasSmallRanks s.names) where
  module _ (n : ℕ) (env : Environment) (g : base ≤ n) (agrees : Agrees s.names base w env) (x : Name) (d : Operand) (is : variable_of s.names.variables x ≡ Some d) (stands : DeclareStands base env d (state_of w.vars x)) where
    declare-is : declare_of s.names x ≡ d
    declare-is = ap or_nothing is

    declares : IsNamed d.kind → DeclaresArray base env (declare_of s.names x) (state_of w.vars x) stands.var
    declares named = subst (λ o. DeclaresArray base env o (state_of w.vars x) stands.var) (sym declare-is)
        (record { below = stands.below; found = stands.found; holds = stands.holds; fits = stands.fits; named = named })

    module _ {k : Count} (subs : Subs k) (many : rank_of d.kind ≡ how_many subs) (sound : AreSoundSubs true s subs) (h : values.SubscriptsStand vectors base env s w (reference x s n).made 1 (n + numbers_of (reference x s n).ops) subs) where
      fit : SubscriptsFit vectors base s n env w x subs
      fit = record {
        within = λ a held. named_within subs d.kind (state_of w.vars x) stands.fits many (small x d is) a held;
        stand = subs-ready vectors base s w env agrees subs (reference x s n).made 1 (n + numbers_of (reference x s n).ops) sound h;
      }

      pub left-part : IsNamed d.kind → Does vectors s n env (part_of x (λ r. subscripts r 1 subs)) (part_selected w x subs) (λ y b m after. IsPart n m after y stands.var b.0 b.1)
      left-part named = does-part_of k vectors base s n env w x stands.var g (declares named) subs fit

      abbrev part_term : VarState → Staged Term
      part_term held = source.allocated held >>= (λ a. source.picks w (dims a.shape) subs >>= source.designator a)

      abbrev Results : VarState → Type 0
      Results held = Does vectors s n env (part_of x (λ r. subscripts r 1 subs) then loaded) (part_term held) (λ y u m after. Stands base n m after y u)

      array_part : IsNamed d.kind → Results (state_of w.vars x)
      array_part named = goes-weaker (stage1 vectors) n env ((part_of x (λ r. subscripts r 1 subs) then loaded) s n).ops (λ u after. StandsUnnamed base n _ after _ u) (λ u after. Stands base n _ after _ u) (part_term (state_of w.vars x))
          (λ u after kept unnamed. unnamed.0.0) (does-part_loaded k vectors base s n env w x stands.var g (declares named) subs fit)

      by_kind : (kd : ValueKind) (held : VarState) → d.kind ≡ kd → Fits kd held → state_of w.vars x ≡ held → Results held
      by_kind (kind.Declared e shape) held named fits at = subst Results at (array_part (subst IsNamed (sym named) tt))
      by_kind (kind.Allocatable e rank) held named fits at = subst Results at (array_part (subst IsNamed (sym named) tt))
      by_kind (kind.Place e) (state.Scalar z) named fits at =
          scalar-faults vectors s stands.var z (stands.holds ∙ at) n env x e (ap (λ o. o.kind) declare-is ∙ named) (ap (λ o. env o.value.number) declare-is ∙ stands.found)
          subs (sym many ∙ ap rank_of named) loaded (λ y u m after. Stands base n m after y u)
      by_kind kd held named fits at = absurd fits

      pub part-stands : Results (state_of w.vars x)
      part-stands = by_kind d.kind (state_of w.vars x) refl stands.fits refl

  pub parts-stand : PartsStand vectors base s w
  parts-stand = λ k n env x subs g agrees sound h. part-stands n env g agrees x sound.0 sound.1 (agrees.variables x sound.0 sound.1).1 subs sound.2 sound.3 h

  -- ---- expressions and left sides

  pub expressions-stand : (n : ℕ) (env : Environment) → base ≤ n → Agrees s.names base w env → (e : Expr) → IsSound true s e → IsClear vectors s false n e → Leaves vectors base n s n env (value e) (source.walk w e)
  expressions-stand n env g agrees e sound clear = expression-if true vectors base s w parts-stand false e n env g agrees sound clear tt

  pub left-parts : (n : ℕ) (env : Environment) → base ≤ n → Agrees s.names base w env → (x : Name) (d : Operand) → variable_of s.names.variables x ≡ Some d → IsNamed d.kind → (stands : DeclareStands base env d (state_of w.vars x)) →
      {k : Count} (subs : Subs k) → rank_of d.kind ≡ how_many subs → AreSoundSubs true s subs → AreClearSubs vectors s (reference x s n).made 1 (n + numbers_of (reference x s n).ops) subs →
      Does vectors s n env (part_of x (λ r. subscripts r 1 subs)) (part_selected w x subs) (λ y b m after. IsPart n m after y stands.var b.0 b.1)
  left-parts n env g agrees x d is named stands subs many sound clear =
      left-part n env g agrees x d is stands subs many sound
      (subscripts-stand true vectors base s w parts-stand subs (reference x s n).made 1 (n + numbers_of (reference x s n).ops) env (omega (arith, g)) agrees sound clear) named
