-- What the rules on masks, sides and left sides say where none is broken.
use Rattle.std.proofs.Common.{◌≡◌, refl, sym, ap, ◌∙◌, ℕ, Bool, true, false, not, ◌||◌, List, [], ◌++◌, Option, Some, None, nat_eq, nat_lt, true≢false, if◌then◌else◌, arith}
use Rattle.std.proofs.lemmas.Bool.{and_from, eqb-true}
use Rattle.ws_tree.specs.declared.expr.Expr.{Expr}
use Rattle.ws_types.specs.declared.types.Typed.{Typed}
use Rattle.ws_types.specs.declared.types.Row.{Row}
use Rattle.ws_types.specs.Names.{is_constant, is_active, target_faults}
use Rattle.ws_types.specs.Operations.{is_other_type, is_above, same_truth}
use Rattle.ws_types.specs.Expressions.{typed, faults}
use Rattle.ws_sema.specs.declared.within.Within.TheVariants as within
use Rattle.ws_sema.specs.Statements.{target_standing, is_designator, left_faults, left_type, is_other_rank, control_faults, sides_faults, is_wrong_right, is_rank_0, mask_faults, scalar_mask_faults}
use Rattle.ws_sema.proofs.NoFaults.{none_first, none_after, not_broken, left_false, right_false, not_false}
use Rattle.hlfir_ops.specs.declared.kinds.Elem.TheVariants.{I1}
use Rattle.hlfir_ops.specs.declared.kinds.ValueKind.{ValueKind}
use Rattle.hlfir_ops.specs.RulesValues.{same_elem, elem_of, rank_of, is_mask}
use Rattle.lower_assign.specs.Known.{elem}
use Rattle.kind_laws.specs.Laws.{HasType}
use Rattle.kind_laws.proofs.TypedExpressions.{type_known}
use Rattle.kind_laws.proofs.TypesTold.{not_above}

-- where it is not refused outright, nothing in it is
-- ---- masks

pub record MaskType (enclosing : Option ℕ) (ty : Typed) : Type 0 where
  pub truth : ty.truth ≡ true
  pub positive : nat_eq ty.rank 0 ≡ false
  pub same : is_other_rank enclosing (Some ty) ≡ false

truth_is : (b : Bool) → not (same_truth true b) ≡ false → b ≡ true
truth_is true h = refl
truth_is false h = absurd (true≢false h)

pub mask-type : (line : ℕ) (enclosing : Option ℕ) (m : Option Typed) (ty : Typed) → m ≡ Some ty → mask_faults line enclosing m ≡ [] → MaskType enclosing ty
unfolding mask_faults
mask-type line enclosing m ty is f =
    let wrong = not_broken _ _ _ (none_first _ _ f) in
    let ranks = not_broken _ _ _ (none_after _ _ f) in
    record {
      truth = truth_is ty.truth (ap (is_other_type true) (sym is) ∙ wrong);
      positive = ap is_rank_0 (sym is) ∙ left_false (is_rank_0 m) (is_other_rank enclosing m) ranks;
      same = ap (is_other_rank enclosing) (sym is) ∙ right_false (is_rank_0 m) (is_other_rank enclosing m) ranks;
    }

pub same-rank : (r : ℕ) (ty : Typed) → is_other_rank (Some r) (Some ty) ≡ false → ty.rank ≡ r
same-rank r ty h = sym (eqb-true r ty.rank (not_false (nat_eq r ty.rank) h))

positive_rank : (n : ℕ) → nat_eq n 0 ≡ false → nat_lt 0 n ≡ true
positive_rank n h = grind (arith, h)

-- the kind of a mask
pub mask-kind : (enclosing : Option ℕ) (ty : Typed) (k : ValueKind) → MaskType enclosing ty → HasType ty k → is_mask (Some k) ≡ true
mask-kind enclosing ty k m h =
    let type : same_elem I1 (elem_of k) ≡ true = ap (same_elem I1) (h.elem ∙ ap elem m.truth) in
    and_from (same_elem I1 (elem_of k)) (nat_lt 0 (rank_of k)) type (ap (nat_lt 0) h.rank ∙ positive_rank ty.rank m.positive)

-- ---- left sides

pub record LeftType (t : List Row) (inside : Bool) (e : Expr) : Type 0 where
  pub type : Typed
  pub typed : typed t inside e ≡ Some type
  pub left : left_type t inside e ≡ Some type

target_is : (c a : Bool) (o : Option Typed) → c ≡ false → a ≡ false → (if c || a then None else o) ≡ o
target_is true a o h g = absurd (true≢false h)
target_is false true o h g = absurd (true≢false g)
target_is false false o h g = refl

pub left-known : (t : List Row) (inside : Bool) (line : ℕ) (e : Expr) → left_faults t inside line e ≡ [] → LeftType t inside e
unfolding target_faults
left-known t inside line e f =
    let first = none_first (faults t inside line e ++ target_faults line (target_standing t e)) _ f in
    let type = type_known t inside line e (none_first (faults t inside line e) (target_faults line (target_standing t e)) first) in
    let target = none_after (faults t inside line e) (target_faults line (target_standing t e)) first in
    record {
      type = type.0;
      typed = type.1;
      left = target_is (is_constant (target_standing t e)) (is_active (target_standing t e)) (typed t inside e) (not_broken _ _ _ (none_first _ _ target)) (not_broken _ _ _ (none_after _ _ target)) ∙ type.1;
    }

pub left-designates : (t : List Row) (inside : Bool) (line : ℕ) (e : Expr) → left_faults t inside line e ≡ [] → is_designator e ≡ true
left-designates t inside line e f = not_false (is_designator e) (not_broken _ _ _ (none_after (faults t inside line e ++ target_faults line (target_standing t e)) _ f))

pub control-rank : (line r : ℕ) (left : Option Typed) (ty : Typed) → left ≡ Some ty → control_faults (within.Masked line (Some r)) left ≡ [] → ty.rank ≡ r
unfolding control_faults
control-rank line r left ty is f = same-rank r ty (ap (is_other_rank (Some r)) (sym is) ∙ not_broken _ _ _ f)

-- ---- in a FORALL

pub record ScalarSides (bare : Bool) (a b : Option Typed) : Type 0 where
  pub left : (ty : Typed) → a ≡ Some ty → ty.rank ≡ 0
  pub right : (ty : Typed) → b ≡ Some ty → ty.rank ≡ 0
  pub part : bare ≡ false

pub scalar-sides : (line : ℕ) (bare : Bool) (a b : Option Typed) → sides_faults within.Forall line bare a b ≡ [] → ScalarSides bare a b
unfolding sides_faults
scalar-sides line bare a b f =
    let above = not_broken _ _ _ (none_first _ _ (none_first _ _ f)) in
    record {
      left = λ ty is. not_above ty.rank (ap (is_above 0) (sym is) ∙ left_false (is_above 0 a) (is_above 0 b) above);
      right = λ ty is. not_above ty.rank (ap (is_above 0) (sym is) ∙ right_false (is_above 0 a) (is_above 0 b) above);
      part = right_false (is_wrong_right a b) bare (not_broken _ _ _ (none_after _ _ f));
    }

pub scalar-mask : (line : ℕ) (m : Option Typed) (ty : Typed) → m ≡ Some ty → scalar_mask_faults line m ≡ [] → ty.rank ≡ 0
unfolding scalar_mask_faults
scalar-mask line m ty is f = not_above ty.rank (ap (is_above 0) (sym is) ∙ not_broken _ _ _ (none_after _ _ f))
