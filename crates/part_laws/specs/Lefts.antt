-- Left sides as regions: what they yield is the target of their sources.
use Rattle.std.specs.Prelude.{◌≡◌, ℕ, ◌+◌, ◌≤◌, true, false, List, Some, Ok, Err}
use mathlib.Core.Former.{Count}
use Rattle.ws_base.specs.declared.name.Name.{Name}
use Rattle.ws_base.specs.Outcomes.{Staged}
use Rattle.ws_space.specs.declared.state.ArrayValue.{ArrayValue}
use Rattle.ws_space.specs.declared.state.Var.{Var}
use Rattle.ws_space.specs.Values.{state_of, held}
use Rattle.ws_tree.specs.declared.expr.Expr.TheVariants.{Named}
use Rattle.ws_tree.specs.Trees.{Subs}
use Rattle.ws_types.specs.Expressions.{how_many}
use Rattle.array_meaning.specs.declared.world.World.{World}
use Rattle.array_meaning.specs.declared.term.Term.TheVariants.{Section}
use Rattle.array_meaning.specs.declared.term.Pick.{Pick}
use Rattle.array_meaning.specs.Assign.{held_by}
use Rattle.array_meaning.specs.Stage2 as later
use Rattle.hlfir_ops.specs.Numbers.{numbers_of}
use Rattle.hlfir_ops.specs.RulesValues.{rank_of}
use Rattle.hlfir_meaning.specs.Environments.{Selection, variable, part, Environment, OpRegion, Yielded, result}
use Rattle.hlfir_meaning.specs.Selections.{array_operand, extents}
use Rattle.hlfir_meaning.specs.Stage1.{subscript_numbers, walk}
use Rattle.hlfir_meaning.specs.Stage2.{targets}
use Rattle.lower_values.specs.declared.operand.Operand.{Operand}
use Rattle.lower_values.specs.Scopes.{Scope}
use Rattle.lower_values.specs.Lowerings.{Lowering}
use Rattle.lower_values.specs.References.{variable_of, declare_of, reference}
use Rattle.lower_values.specs.Values.{part_of, subscripts}
use Rattle.lower_assign.specs.Statements.{yielded, left_of}
use Rattle.value_laws.specs.Standing.{AreIn}
use Rattle.value_laws.specs.Names.{DeclareStands, Agrees}
use Rattle.value_laws.specs.Sound.{AreSoundSubs, AreClearSubs}
use Rattle.value_laws.specs.Variables.{IsNamed}
use Rattle.part_laws.specs.Laws.{part_selected}
use Rattle.part_laws.specs.Joined.{HasSmallRanks}

-- the region that yields what this makes
abbrev pub region_of : Lowering Operand → Scope → ℕ → OpRegion
region_of p s n = record { first = n; ops = (yielded p s n).ops }

-- it faults as its source does, or yields what this holds of
abbrev pub Ends : {B : Type 0} → Environment → OpRegion → Staged B → (Yielded → B → Type 0) → Type 0
Ends env g (Ok b) Q = (y : Yielded) × (walk env g ≡ Ok y) × Q y b
Ends env g (Err t) Q = walk env g ≡ Err t

-- a part of this variable's array, with the shape and the targets of the source's section
pub record IsTarget (v : Var) (y : Yielded) (a : ArrayValue) (qs : List Pick) : Type 0 where
  pub selected : Selection
  pub found : result y ≡ part v a selected
  pub shape : array_operand (extents selected) ≡ later.operands (Section a qs)
  pub targets_are : (at : List ℕ) → AreIn at (later.operands (Section a qs)) → targets a selected at ≡ later.targets (Section a qs) at

abbrev pub LeftPartsReach : Type 0
LeftPartsReach = (k : Count) (base : ℕ) (s : Scope) (w : World) → HasSmallRanks s.names → (n : ℕ) (env : Environment) → base ≤ n → Agrees s.names base w env →
    (x : Name) (d : Operand) → variable_of s.names.variables x ≡ Some d → IsNamed d.kind → (stands : DeclareStands base env d (state_of w.vars x)) →
    (subs : Subs k) → rank_of d.kind ≡ how_many subs → AreSoundSubs true s subs →
    AreClearSubs (subscript_numbers (region_of (part_of x (λ r. subscripts r 1 subs)) s n).ops) s (reference x s n).made 1 (n + numbers_of (reference x s n).ops) subs →
    Ends env (region_of (part_of x (λ r. subscripts r 1 subs)) s n) (part_selected w x subs) (λ y b. IsTarget stands.var y b.0 b.1)

-- A whole variable, as its box where it is allocatable, which faults where it is not allocated.
abbrev pub LeftNamesReach : Type 0
LeftNamesReach = (base : ℕ) (s : Scope) (w : World) (n : ℕ) (env : Environment) → base ≤ n → (x : Name) (stands : DeclareStands base env (declare_of s.names x) (state_of w.vars x)) →
    Ends env (region_of (left_of true (Named x)) s n) (held_by (held (state_of w.vars x))) (λ y a. result y ≡ variable stands.var)

-- and as its declare, which may change its shape
abbrev pub LeftDeclaresReach : Type 0
LeftDeclaresReach = (base : ℕ) (s : Scope) (w : World) (n : ℕ) (env : Environment) (x : Name) (stands : DeclareStands base env (declare_of s.names x) (state_of w.vars x)) →
    (y : Yielded) × (walk env (region_of (left_of false (Named x)) s n) ≡ Ok y) × (result y ≡ variable stands.var)
