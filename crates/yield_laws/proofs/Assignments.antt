-- An assignment is right.
use Rattle.std.proofs.Common.{◌≡◌, refl, sym, ap, ◌∙◌, ℕ, ◌==◌, nat_lt, nat_eq, Bool, true, false, not, ◌&&◌, ◌||◌, List, [], ◌∷◌, Option, Some, arith, true≢false}
use Rattle.std.specs.List.{list_all}
use Rattle.std.proofs.lemmas.Bool.{and_from}
use Rattle.ws_tree.specs.declared.expr.Expr.{Expr}
use Rattle.ws_tree.specs.declared.expr.Expr.TheVariants.{Named}
use Rattle.ws_types.specs.declared.types.Typed.{Typed}
use Rattle.ws_sema.specs.declared.within.Within.{Within}
use Rattle.ws_sema.specs.Statements.{is_inside, is_masked, types_differ, is_wrong_right, has_no_subscripts}
use Rattle.ws_sema.proofs.NoFaults.{not_false}
use Rattle.hlfir_ops.specs.declared.kinds.ValueKind.{ValueKind}
use Rattle.hlfir_ops.specs.declared.what.What.TheVariants as what
use Rattle.hlfir_ops.specs.declared.op.Op.{Op}
use Rattle.hlfir_ops.specs.declared.op.Region.{Region}
use Rattle.hlfir_ops.specs.Trees.{op_of, region_of}
use Rattle.hlfir_ops.specs.RulesValues.{Value, value_at, kind_of, elem_of, rank_of, same_elem, is_place, is_target, is_allocatable_declare}
use Rattle.hlfir_ops.specs.RulesRegions.{parts, parts_in, first_value, first_kind, yields_value, yields_target}
use Rattle.hlfir_ops.specs.RulesStatements.{sides_agree, same_truth, yields_no_allocatable, regions_judged}
use Rattle.hlfir_ops.specs.Rules.{yields_of, sides_of, realloc_of}
use Rattle.lower_values.specs.declared.names.Names.{Names}
use Rattle.lower_values.specs.declared.operand.Operand.{Operand}
use Rattle.lower_assign.specs.Known.{elem}
use Rattle.lower_assign.specs.Statements.{left, is_whole_allocatable}
use Rattle.yield_laws.proofs.Right.{IsRight, op-right}
use Rattle.kind_laws.proofs.Ends.{ops_in-first, ops_in-second}
use Rattle.kind_laws.proofs.TypesTold.{same_elem-same, not_other}
use Rattle.yield_laws.proofs.Regions.{no-regions, more-regions, region-reached}
use Rattle.yield_laws.proofs.Usable.{IsUsable}
use Rattle.yield_laws.proofs.Yielded.{IsYielding, first-kind, one-of, value-yielded, usable-yielded, yielded-reached}

-- ---- truth values

same_as_itself : (b : Bool) → same_truth b (true && b) ≡ true
same_as_itself true = refl
same_as_itself false = refl

-- `realloc` stands for a whole allocatable, and nowhere under a mask
realloc_fits : (m b c : Bool) → c ≡ b → (m ≡ true → b ≡ false) → same_truth b (not m && c) ≡ true
realloc_fits true true c e h = absurd (true≢false (h refl))
realloc_fits true false c e h = refl
realloc_fits false b c e h = ap (λ a. same_truth b (true && a)) e ∙ same_as_itself b

and_none : (a b : Bool) → b ≡ false → (a && b) ≡ false
and_none true b h = h
and_none false b h = refl

ranks_agree : (a b : ℕ) → (nat_lt 0 b && not (nat_eq a b)) ≡ false → (b == 0 || b == a) ≡ true
ranks_agree a b h = two (nat_lt 0 b) refl
  where
    two : (c : Bool) → nat_lt 0 b ≡ c → (b == 0 || b == a) ≡ true
    two true is = let eq : nat_eq a b ≡ true = not_false _ (ap (λ c. c && not (nat_eq a b)) (sym is) ∙ h) in grind (arith, eq)
    two false is = grind (arith, is)

-- ---- the sides

pub sides_fit : (a b : Typed) (left right : ValueKind) → elem_of left ≡ elem a.truth → rank_of left ≡ a.rank → elem_of right ≡ elem b.truth → rank_of right ≡ b.rank → types_differ (Some a) (Some b) ≡ false → is_wrong_right (Some a) (Some b) ≡ false →
    sides_agree (Some right) (Some left) ≡ true
sides_fit a b left right le lr re rr types ranks =
    let same : b.truth ≡ a.truth = not_other a.truth b types in
    and_from _ _ (ap (λ e. same_elem e (elem_of left)) (re ∙ (ap elem same ∙ sym le)) ∙ same_elem-same (elem_of left))
    (ap (λ n. n == 0 || n == rank_of left) rr ∙ (ap (λ n. b.rank == 0 || b.rank == n) lr ∙ ranks_agree a.rank b.rank ranks))

-- a left side without subscripts stands in no forall
pub bare_whole : (names : Names) (l : Expr) → has_no_subscripts l ≡ false → is_whole_allocatable names l ≡ false
bare_whole names (Named x) h = absurd (true≢false h)
bare_whole names _ h = refl

pub no_realloc : (w : Within) (m masked whole : Bool) → m ≡ is_masked w → masked ≡ (is_masked w && not (is_inside w)) → (is_inside w ≡ true → whole ≡ false) → m ≡ true → (not masked && whole) ≡ false
no_realloc w m masked whole around under none is = two (is_inside w) refl
  where
    two : (b : Bool) → is_inside w ≡ b → (not masked && whole) ≡ false
    two true e = and_none (not masked) whole (none e)
    two false e =
        let hidden : masked ≡ true = under ∙ (ap (λ a. a && not (is_inside w)) (sym around ∙ is) ∙ ap not e) in
        ap (λ c. not c && whole) hidden

module _ (vs : List Value) (m realloc : Bool) (line : ℕ) (kind : Option ValueKind) (right left : List Op) (x y : Operand) (right_yields : IsYielding vs right (x.value ∷ [])) (left_yields : IsYielding vs left (y.value ∷ [])) where
  regions : List Region
  regions = region_of right ∷ region_of left ∷ []

  judged : (b : Bool) → yields_no_allocatable vs (region_of right) ≡ true → (b ≡ false → yields_no_allocatable vs (region_of left) ≡ true) → list_all (yields_no_allocatable vs) (regions_judged (what.Assign b) regions) ≡ true
  unfolding regions
  judged true h g = and_from _ true h refl
  judged false h g = and_from _ _ h (and_from _ true (g refl) refl)

  pub assign-right : (u : IsUsable vs x) → is_place (Some x.kind) ≡ false → (v : Value) → value_at vs y.value ≡ Some v → v.kind ≡ y.kind → is_target (Some y.kind) ≡ true → is_allocatable_declare (Some v) ≡ realloc →
      (m ≡ true → realloc ≡ false) → sides_agree (Some x.kind) (Some y.kind) ≡ true → IsRight vs m (op_of (what.Assign realloc) line [] kind (region_of right ∷ region_of left ∷ []))
  unfolding yields_of sides_of realloc_of regions
  assign-right u no_place v found same target declare none agree =
      let second = ops_in-second (region_of right) left [] in
      let first = ops_in-first right (region_of left ∷ []) in
      let right_kind : first_kind vs (parts right) ≡ Some x.kind = first-kind right_yields u.found in
      let left_kind : first_kind vs (parts left) ≡ Some y.kind = ap (first_kind vs) left_yields.parts ∙ (ap kind_of found ∙ ap Some same) in
      let left_first : first_value vs (parts left) ≡ Some v = ap (first_value vs) left_yields.parts ∙ found in
      op-right vs m (what.Assign realloc) line [] kind regions
      (record {
        other = refl;
        yields = and_from _ _ (ap (yields_value vs) first ∙ value-yielded right_yields u.found no_place)
            (ap (yields_target vs) second ∙ and_from _ _ (one-of left_yields) (ap is_target left_kind ∙ target));
        sides =
            ap (λ a. sides_agree (first_kind vs (parts a)) (first_kind vs (parts_in regions 1))) first
            ∙ (ap (λ a. sides_agree (first_kind vs (parts right)) (first_kind vs (parts a))) second
            ∙ (ap (λ k. sides_agree k (first_kind vs (parts left))) right_kind ∙ (ap (sides_agree (Some x.kind)) left_kind ∙ agree)));
        realloc =
            ap (λ a. same_truth realloc (not m && is_allocatable_declare (first_value vs (parts a)))) second
            ∙ (ap (λ o. same_truth realloc (not m && is_allocatable_declare o)) left_first ∙ realloc_fits m realloc (is_allocatable_declare (Some v)) declare none);
        uses = refl;
        judged = judged realloc (region-reached vs right (usable-yielded right_yields u))
            (λ is. region-reached vs left (yielded-reached left_yields (and_from _ true (ap not (ap is_allocatable_declare found ∙ (declare ∙ is))) refl)));
      })
      (more-regions vs m right (region_of left ∷ []) (right_yields.right m) (more-regions vs m left [] (left_yields.right m) (no-regions vs m)))
