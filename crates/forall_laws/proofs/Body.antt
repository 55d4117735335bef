-- The mask and the assignments of a FORALL, one after another, at the active combinations.
use Rattle.std.specs.Prelude.{⊤}
use Rattle.std.proofs.Common.{◌≡◌, refl, sym, ap, ◌∙◌, subst, ℕ, ◌+◌, ◌≤◌, Bool, not, ◌&&◌, List, [], ◌∷◌, length, map, None, arith}
use Rattle.ws_tree.specs.declared.expr.Expr.{Expr}
use Rattle.ws_tree.specs.Grammatical.{IsSide, IsDesignator}
use Rattle.ws_types.specs.declared.types.Row.{Row}
use Rattle.ws_sema.specs.declared.within.Within.TheVariants as within
use Rattle.ws_sema.specs.Statements.{assign_faults}
use Rattle.array_meaning.specs.declared.world.World.{World}
use Rattle.array_meaning.specs.Forall as source
use Rattle.array_meaning.specs.Forall.{Combination}
use Rattle.hlfir_ops.specs.declared.what.What.{What}
use Rattle.hlfir_ops.specs.declared.what.What.TheVariants as what
use Rattle.hlfir_ops.specs.declared.op.Op.{Op, out-Op}
use Rattle.hlfir_ops.specs.declared.op.Region.{Region}
use Rattle.hlfir_ops.specs.Trees.{op_of, region_of}
use Rattle.hlfir_ops.specs.Numbers.{names_in, numbers_of}
use Rattle.hlfir_ops.specs.RulesRegions.{ops_in}
use Rattle.hlfir_meaning.specs.Steps.{after_first}
use Rattle.hlfir_meaning.specs.Combinations.{Header, at_combinations, forall_assign, forall_part}
use Rattle.lower_values.specs.Scopes.{Scope, inside}
use Rattle.lower_values.specs.Lowerings.{Lowering, scoped, statement_of, regions_from}
use Rattle.lower_values.specs.Values.{value}
use Rattle.lower_assign.specs.Statements.{yielded, left, assignment, is_whole_allocatable}
use Rattle.kind_laws.specs.Standing.{Knows}
use Rattle.kind_laws.proofs.ScopesKnown.{inside_known}
use Rattle.kind_laws.proofs.Ends.{ops_in-second}
use Rattle.value_laws.proofs.Ops.{parts-op_of, ops_in-first}
use Rattle.world_laws.specs.Worlds.{FitsNames}
use Rattle.world_laws.specs.Meanings.{LeavesWorld}
use Rattle.forall_laws.specs.Combined.{StandsOver}
use Rattle.forall_laws.proofs.Yields.{YieldsOver}
use Rattle.forall_laws.proofs.Assigned.{IsValue, IsTarget, assigned_same}
use Rattle.forall_laws.proofs.Sides.{stands-inside, stands-higher, sides_scalar, value-yielded, left-yielded}

-- the regions of an op that holds one or two of them
abbrev pub region_ops : (w : What) (line k n : ℕ) (p : Lowering ⊤) (s : Scope) → List Op
region_ops w line k n p s = (p (inside w line k n s) (n + length (names_in w k))).ops

-- all that stands for the worlds in which the body runs
pub record BodyStands (t : List Row) (s : Scope) (h : Header) (n : ℕ) (of : ℕ → Combination) : Type 0 where
  pub knows : Knows t s
  pub stands : (w : World) → FitsNames s.names w → (at : List ℕ) → StandsOver at of s w n (at_combinations w.vars h at)

module _ (t : List Row) (s : Scope) (h : Header) (n : ℕ) (of : ℕ → Combination) (body : BodyStands t s h n of) (at : List ℕ) where
  abbrev combinations : List Combination
  combinations = map of at

  -- ---- one assignment

  module _ (line m : ℕ) (l r : Expr) (low : n ≤ m) where
    abbrev pub realloc : Bool
    realloc = not s.masked && is_whole_allocatable s.names l

    abbrev pub assign : What
    assign = what.Assign realloc

    abbrev pub regions : List Region
    regions = regions_from assign line 0 (m + 0) (yielded (value r) ∷ yielded (left l) ∷ []) s

    abbrev pub right_ops : List Op
    right_ops = region_ops assign line 0 (m + 0) (yielded (value r)) s

    abbrev pub left_ops : List Op
    left_ops = region_ops assign line 1 ((m + 0) + (0 + numbers_of right_ops)) (yielded (left l)) s

    abbrev pub assign_op : Op
    assign_op = op_of assign line [] None regions

    right_is : ops_in regions 0 ≡ right_ops
    right_is = ops_in-first right_ops (region_of left_ops ∷ [])

    left_is : ops_in regions 1 ≡ left_ops
    left_is = ops_in-second (region_of right_ops) left_ops []

    right_place : m + 0 + 0 ≡ m
    right_place = omega arith

    left_place : ((m + 0) + (0 + numbers_of right_ops)) + 0 ≡ after_first m regions
    left_place = omega arith ∙ ap (λ ops. numbers_of ops + m) (sym right_is)

    pub assign-part : (w : World) → FitsNames s.names w → IsDesignator l → IsSide r → assign_faults t within.Forall line l r ≡ [] →
        LeavesWorld s.names (forall_part h at m assign_op (out-Op assign_op).what w.vars) (source.forall_assign w line l r at combinations)
    assign-part w fits g side f =
        let scalar = sides_scalar t line l r f in
        let env = at_combinations w.vars h at in
        let stands = body.stands w fits at in
        let s0 = inside assign line 0 (m + 0) s in
        let m1 = (m + 0) + (0 + numbers_of right_ops) in
        let s1 = inside assign line 1 m1 s in
        let right : YieldsOver at (m + 0 + 0) env right_ops (source.over w r combinations) (IsValue at) =
        value-yielded t line s0 (inside_known t s assign line 0 (m + 0) refl body.knows) at of w (m + 0 + 0) env
        (stands-higher at of s0 w n env (m + 0 + 0) (omega (arith, low)) (stands-inside at of s w n env assign line 0 (m + 0) refl stands)) r side scalar.right scalar.right_rank in
        let left = left-yielded t line s1 (inside_known t s assign line 1 m1 refl body.knows) at of w (m1 + 0) env
        (stands-higher at of s1 w n env (m1 + 0) (omega (arith, low)) (stands-inside at of s w n env assign line 1 m1 refl stands)) l g scalar.left scalar.left_rank scalar.subscripted in
        subst (λ q. LeavesWorld s.names q (source.forall_assign w line l r at combinations))
        (sym (ap (λ p. forall_part h at m assign_op p.what w.vars) (parts-op_of assign line [] None regions) ∙ ap (λ p. forall_assign w.vars h at p.line m p.regions) (parts-op_of assign line [] None regions)))
        (assigned_same s.names w fits l line at left.var left.name left.held h m regions r combinations
        (subst (λ ops. YieldsOver at m env ops (source.over w r combinations) (IsValue at)) (sym right_is) (subst (λ j. YieldsOver at j env right_ops (source.over w r combinations) (IsValue at)) right_place right))
        (subst (λ ops. YieldsOver at (after_first m regions) env ops (source.over_targets w l combinations) (IsTarget left.var)) (sym left_is)
        (subst (λ j. YieldsOver at j env left_ops (source.over_targets w l combinations) (IsTarget left.var)) left_place left.yields)))

    pub assign-ops : (assignment line l r s m).ops ≡ assign_op ∷ []
    unfolding assignment scoped statement_of
    assign-ops = refl
