-- Left sides as regions.
use Rattle.std.proofs.Common.{◌≡◌, refl, sym, subst, ℕ, ◌+◌, ◌≤◌, true, false, List, [], ◌∷◌, Some, Ok, arith}
use Rattle.std.specs.Prelude.{⊤}
use mathlib.Core.Former.{Count}
use Rattle.ws_base.specs.declared.name.Name.{Name}
use Rattle.ws_base.specs.Outcomes.{Staged}
use Rattle.ws_space.specs.declared.state.ArrayValue.{ArrayValue}
use Rattle.ws_space.specs.declared.state.VarState.{VarState}
use Rattle.ws_space.specs.declared.state.VarState.TheVariants as state
use Rattle.ws_space.specs.declared.state.Var.{Var}
use Rattle.ws_space.specs.Shapes.{dims, shape_of}
use Rattle.ws_space.specs.Values.{state_of, held}
use Rattle.ws_tree.specs.Trees.{Subs}
use Rattle.ws_types.specs.Expressions.{how_many}
use Rattle.array_meaning.specs.declared.world.World.{World}
use Rattle.array_meaning.specs.Assign.{held_by}
use Rattle.array_meaning.specs.Stage1 as source
use Rattle.hlfir_ops.specs.declared.kinds.ValueKind.{ValueKind}
use Rattle.hlfir_ops.specs.declared.kinds.ValueKind.TheVariants as kind
use Rattle.hlfir_ops.specs.Numbers.{numbers_of}
use Rattle.hlfir_ops.specs.RulesValues.{rank_of}
use Rattle.hlfir_meaning.specs.Environments.{variable, Environment, Yielded, result}
use Rattle.hlfir_meaning.specs.Stage1.{subscript_numbers, stage1}
use Rattle.lower_values.specs.declared.operand.Operand.{Operand}
use Rattle.lower_values.specs.Scopes.{Scope}
use Rattle.lower_values.specs.Lowerings.{Lowering, done, scoped}
use Rattle.lower_values.specs.References.{variable_of, declare_of, box_of, boxed, reference}
use Rattle.lower_values.specs.Values.{part_of, subscripts}
use Rattle.lower_assign.specs.Statements.{whole_left}
use Rattle.value_laws.specs.Standing.{AreIn, Does}
use Rattle.value_laws.specs.Names.{DeclareStands, Agrees}
use Rattle.value_laws.specs.Sound.{AreSoundSubs, AreClearSubs}
use Rattle.value_laws.specs.Variables.{Fits, IsNamed}
use Rattle.value_laws.proofs.Walking.{goes-weaker, does-done, does-scoped}
use Rattle.part_laws.specs.Parts.{Refers, IsPart}
use Rattle.part_laws.specs.Laws.{part_selected}
use Rattle.part_laws.specs.Joined.{HasSmallRanks}
use Rattle.part_laws.specs.Lefts.{region_of, Ends, IsTarget, LeftNamesReach, LeftDeclaresReach}
use Rattle.part_laws.proofs.Joined.{left-parts}
use Rattle.part_laws.proofs.References.{does-boxed}
use Rattle.part_laws.proofs.Regions.{does-ends}
use Rattle.part_laws.proofs.Sections.{part-shapes}
use Rattle.part_laws.proofs.Selected.{same-targets}

-- ---- parts

pub left-parts-reach : (k : Count) (base : ℕ) (s : Scope) (w : World) → HasSmallRanks s.names → (n : ℕ) (env : Environment) → base ≤ n → Agrees s.names base w env →
    (x : Name) (d : Operand) → variable_of s.names.variables x ≡ Some d → IsNamed d.kind → (stands : DeclareStands base env d (state_of w.vars x)) →
    (subs : Subs k) → rank_of d.kind ≡ how_many subs → AreSoundSubs true s subs →
    AreClearSubs (subscript_numbers (region_of (part_of x (λ r. subscripts r 1 subs)) s n).ops) s (reference x s n).made 1 (n + numbers_of (reference x s n).ops) subs →
    Ends env (region_of (part_of x (λ r. subscripts r 1 subs)) s n) (part_selected w x subs) (λ y b. IsTarget stands.var y b.0 b.1)
left-parts-reach k base s w small n env g agrees x d is named stands subs many sound clear =
    does-ends s n env (part_of x (λ r. subscripts r 1 subs)) (λ y b m after. IsPart n m after y stands.var b.0 b.1) (λ y b. IsTarget stands.var y b.0 b.1)
    (λ b m after h. record {
      selected = h.selected;
      found = h.found;
      shape = part-shapes b.0 (dims b.0.shape) h.selected b.1 h.selects;
      targets_are = λ at inside. same-targets b.0 (dims b.0.shape) h.selected b.1 h.selects at (subst (AreIn at) (sym (part-shapes b.0 (dims b.0.shape) h.selected b.1 h.selects)) inside);
    })
    (part_selected w x subs)
    (left-parts (subscript_numbers (region_of (part_of x (λ r. subscripts r 1 subs)) s n).ops) base s w small n env g agrees x d is named stands subs many sound clear)

-- ---- whole variables

module _ (vectors : List ℕ) (base : ℕ) (s : Scope) (n : ℕ) (env : Environment) (g : base ≤ n) (d : Operand) (held_now : VarState) (stands : DeclareStands base env d held_now) where
  abbrev IsVariable : Operand → ArrayValue → ℕ → Environment → Type 0
  IsVariable r a m after = after r.value.number ≡ variable stands.var

  boxed_variable : IsNamed d.kind → Does vectors s n env (boxed d) (source.allocated held_now) IsVariable
  boxed_variable named = goes-weaker (stage1 vectors) n env (boxed d s n).ops (λ a after. Refers base n (n + numbers_of (boxed d s n).ops) after (boxed d s n).made stands.var a) (λ a after. IsVariable (boxed d s n).made a (n + numbers_of (boxed d s n).ops) after) (source.allocated held_now)
      (λ a after kept h. h.found) (does-boxed vectors base n s n env stands.var d (omega arith) stands.below stands.found held_now stands.holds stands.fits named)

  by_kind : (k : ValueKind) (now : VarState) → d.kind ≡ k → held_now ≡ now → Fits k now → Does vectors s n env (boxed d) (held_by (held held_now)) IsVariable
  unfolding boxed
  by_kind (kind.Declared e shape) (state.Array a) named is fits =
      subst (λ q. Does vectors s n env (boxed d) (held_by (held q)) IsVariable) (sym is)
      (subst (λ q. Does vectors s n env (boxed d) (source.allocated q) IsVariable) is (boxed_variable (subst IsNamed (sym named) tt)))
  by_kind (kind.Allocatable e rank) (state.Array a) named is fits =
      subst (λ q. Does vectors s n env (boxed d) (held_by (held q)) IsVariable) (sym is)
      (subst (λ q. Does vectors s n env (boxed d) (source.allocated q) IsVariable) is (boxed_variable (subst IsNamed (sym named) tt)))
  by_kind (kind.Allocatable e rank) (state.Unallocated r) named is fits =
      subst (λ q. Does vectors s n env (boxed d) (held_by (held q)) IsVariable) (sym is)
      (subst (λ q. Does vectors s n env (boxed d) (source.allocated q) IsVariable) is (boxed_variable (subst IsNamed (sym named) tt)))
  by_kind (kind.Place e) (state.Scalar z) named is fits =
      subst (λ k. Does vectors s n env (box_of k d) (held_by (held held_now)) IsVariable) (sym named)
      (subst (λ q. Does vectors s n env (done d) (held_by (held q)) IsVariable) (sym is) (does-done (stage1 vectors) s n env d (record { shape = shape_of []; values = z ∷ [] }) IsVariable stands.found))
  by_kind k now named is fits = absurd fits

  pub whole-boxed : Does vectors s n env (boxed d) (held_by (held held_now)) IsVariable
  whole-boxed = by_kind d.kind held_now refl refl stands.fits

pub left-names-reach : LeftNamesReach
left-names-reach base s w n env g x stands =
    let p : Lowering Operand = scoped (λ q. whole_left true (declare_of q.names x)) in
    let vectors = subscript_numbers (region_of p s n).ops in
    does-ends s n env p (λ r a m after. after r.value.number ≡ variable stands.var) (λ y a. result y ≡ variable stands.var) (λ a m after h. h) (held_by (held (state_of w.vars x)))
    (does-scoped (stage1 vectors) s n env (λ q. whole_left true (declare_of q.names x)) (held_by (held (state_of w.vars x))) (λ r a m after. after r.value.number ≡ variable stands.var)
    (whole-boxed vectors base s n env g (declare_of s.names x) (state_of w.vars x) stands))

abbrev IsDeclared : Var → Operand → ⊤ → ℕ → Environment → Type 0
IsDeclared v r u m after = after r.value.number ≡ variable v

abbrev IsYielded : Var → Yielded → ⊤ → Type 0
IsYielded v y u = result y ≡ variable v

pub left-declares-reach : LeftDeclaresReach
unfolding scoped
left-declares-reach base s w n env x stands =
    let p : Lowering Operand = scoped (λ q. whole_left false (declare_of q.names x)) in
    let vectors = subscript_numbers (region_of p s n).ops in
    let none : Staged ⊤ = Ok tt in
    does-ends s n env p (IsDeclared stands.var) (IsYielded stands.var) (λ u m after h. h) none
    (does-scoped (stage1 vectors) s n env (λ q. whole_left false (declare_of q.names x)) none (IsDeclared stands.var) (does-done (stage1 vectors) s n env (declare_of s.names x) tt (IsDeclared stands.var) stands.found))
