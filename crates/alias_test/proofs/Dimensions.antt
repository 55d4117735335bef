-- A designator has a form for each dimension of its variable.
use Rattle.std.proofs.Common.{◌≡◌, refl, sym, ap, ◌∙◌, subst, ℕ, zero, suc, ◌<◌, ◌≤◌, Bool, true, ◌&&◌, ◌==◌, List, [], ◌∷◌, length, Option, Some, None, Result, Ok, Err, arith, eqb-true, leb-true}
use Rattle.std.specs.Prelude.{slice_get, nat_lt, nat_le, IfOk}
use Rattle.std.proofs.lemmas.Bool.{and_parts}
use Rattle.std.proofs.lemmas.List.{length-map, length-take}
use Rattle.ws_space.specs.declared.shape.Dim.{Dim}
use Rattle.ws_space.specs.declared.shape.Shape.{Shape}
use Rattle.ws_space.specs.Shapes.{dims, places_from}
use Rattle.ws_space.specs.WellFormed.{elements}
use Rattle.ws_space.proofs.Places.{length-places_from}
use Rattle.hlfir_ops.specs.declared.kinds.Elem.TheVariants.{I32}
use Rattle.hlfir_ops.specs.declared.kinds.ValueKind.{ValueKind}
use Rattle.hlfir_ops.specs.declared.kinds.ValueKind.TheVariants as kind
use Rattle.hlfir_ops.specs.declared.what.SubKind.{SubKind}
use Rattle.hlfir_ops.specs.declared.what.SubKind.TheVariants as sub
use Rattle.hlfir_ops.specs.declared.what.What.{What}
use Rattle.hlfir_ops.specs.declared.what.What.TheVariants as what
use Rattle.hlfir_ops.specs.declared.op.ValueId.{ValueId}
use Rattle.hlfir_ops.specs.declared.op.Op.{Op, out-Op}
use Rattle.hlfir_ops.specs.declared.op.Region.{Region}
use Rattle.hlfir_ops.specs.declared.op.Module.{Module}
use Rattle.hlfir_ops.specs.RulesLimits.{is_small, is_small_shape, declares_in, declare_limit, rank_limit, element_limit}
use Rattle.alias_test.specs.declared.designator.Designator.{Designator}
use Rattle.alias_test.specs.Normal.{forms_of, declared_forms, kept_forms, whole_form, whole_forms, designator_by, designator_given, designator_at}
use Rattle.alias_test.specs.Laws.{IsDesignator, HasDimensions, EachHasItsDimensions}
use Rattle.hlfir_ops.specs.RulesValues.{Value, kind_at, values_of, rank_of, same_elem, elem_of, is_scalar, is_reference, has_rank, is_index_vector, is_target}
use Rattle.hlfir_ops.specs.RulesRegions.{first_kind}
use Rattle.hlfir_ops.specs.RulesForms.{takes, gives, is_variable, is_boxed, rank_of_kind, take_subscripts}
use Rattle.hlfir_ops.specs.Rules.{KeepsRules}
use Rattle.alias_test.specs.Givers.{kind_given, held_by, held_given, held_at, variable_of, givers_of}
use Rattle.alias_test.proofs.Boxes.{held_first, held_at-earlier, variable_of-box, variable_of-itself}
use Rattle.alias_test.proofs.Fitting.{Fits, IsGiven, given, names_part, gives_target, allocatable_target, reference_target}
use Rattle.alias_test.proofs.Numbers.{never}

-- ---- how many forms

length-declared_forms : (var dim : ℕ) (ds : List Dim) → length (declared_forms var dim ds) ≡ length ds
length-declared_forms var dim [] = refl
length-declared_forms var dim (d ∷ ds) = ap suc (length-declared_forms var (suc dim) ds)

length-dims : (shape : Shape) → is_small_shape shape ≡ true → length (dims shape) ≡ shape.rank
length-dims shape small =
    let rank : shape.rank ≤ 3 = leb-true shape.rank 3 (and_parts (nat_le shape.rank rank_limit) (nat_le (elements shape) element_limit) small).0 in
    length-take shape.rank (shape.d1 ∷ shape.d2 ∷ shape.d3 ∷ []) ∙ omega arith

length-kept_forms : (var rank : ℕ) → length (kept_forms var rank) ≡ rank
length-kept_forms var rank = length-map (places_from 1 rank) (λ dim. whole_form var dim None None) ∙ length-places_from 1 rank

length-whole_forms : (var : ℕ) (k : Option ValueKind) → is_variable k ≡ true → is_small k ≡ true → length (whole_forms var k) ≡ rank_of_kind k
length-whole_forms var (Some (kind.Place e)) h small = refl
length-whole_forms var (Some (kind.Declared e shape)) h small = length-declared_forms var 1 (dims shape) ∙ length-dims shape small
length-whole_forms var (Some (kind.Allocatable e rank)) h small = length-kept_forms var rank
length-whole_forms var _ h small = never h

length-forms_of : (gs : List Op) (vs : List Value) (subs : List SubKind) (os : List ValueId) → take_subscripts vs subs os ≡ true → length (forms_of gs subs os) ≡ length subs
length-forms_of gs vs [] os h = refl
length-forms_of gs vs (sub.One ∷ subs) [] h = never h
length-forms_of gs vs (sub.One ∷ subs) (i ∷ more) h = ap suc (length-forms_of gs vs subs more (and_parts (is_scalar I32 (kind_at vs i)) (take_subscripts vs subs more) h).1)
length-forms_of gs vs (sub.Range ∷ subs) [] h = never h
length-forms_of gs vs (sub.Range ∷ subs) (l ∷ []) h = never h
length-forms_of gs vs (sub.Range ∷ subs) (l ∷ u ∷ []) h = never h
length-forms_of gs vs (sub.Range ∷ subs) (l ∷ u ∷ s ∷ more) h =
    ap suc (length-forms_of gs vs subs more (and_parts (is_scalar I32 (kind_at vs l) && is_scalar I32 (kind_at vs u) && is_scalar I32 (kind_at vs s)) (take_subscripts vs subs more) h).1)
length-forms_of gs vs (sub.Vector ∷ subs) [] h = never h
length-forms_of gs vs (sub.Vector ∷ subs) (v ∷ more) h = ap suc (length-forms_of gs vs subs more (and_parts (is_index_vector (kind_at vs v)) (take_subscripts vs subs more) h).1)

-- ---- ranks

rank_is : (n : ℕ) (k : Option ValueKind) → has_rank n k ≡ true → rank_of_kind k ≡ n
rank_is n (Some k) h = eqb-true (rank_of k) n h
rank_is n None h = never h

boxed_rank : (o k : Option ValueKind) → is_boxed o k ≡ true → rank_of_kind k ≡ rank_of_kind o
boxed_rank (Some o) (Some (kind.Allocatable e rank)) h = eqb-true rank (rank_of o) (and_parts (same_elem (elem_of o) e) (rank == rank_of o) h).1
boxed_rank (Some o) _ h = never h
boxed_rank None k h = never h

boxed_forms : (o k : Option ValueKind) (var : ℕ) → is_boxed o k ≡ true → length (whole_forms var k) ≡ rank_of_kind k
boxed_forms (Some o) (Some (kind.Allocatable e rank)) var h = length-kept_forms var rank
boxed_forms (Some o) _ var h = never h
boxed_forms None k var h = never h

-- ---- the values of a module that keeps the rules

module _ (vs : List Value) (gs : List Op) (given_at : (v : ValueId) → is_target (kind_at vs v) ≡ true → IsGiven vs gs v) where
  -- the rank of the variable with this declare
  abbrev rank_at : ℕ → ℕ
  rank_at n = rank_of_kind (kind_given (slice_get gs n))

  -- What a box holds is a reference of its rank.
  held_rank : (e : Bool) (n : ℕ) (w : What) (os : List ValueId) (k : Option ValueKind) (rs : List Region) (p : ValueId) → held_by w os n ≡ Some p → takes e vs w os rs ≡ true → gives vs w os k rs ≡ true →
      (is_target (kind_at vs p) ≡ true) × (rank_of_kind (kind_at vs p) ≡ rank_of_kind k)
  held_rank e n what.Boxed [] k rs p held t g = never t
  held_rank e n what.Boxed (q ∷ []) k rs p held t g =
      let same : q ≡ p = (held_first n q [] p held).1 in
      (subst (λ (x : ValueId). is_target (kind_at vs x) ≡ true) same (allocatable_target (kind_at vs q) t), ap (λ (x : ValueId). rank_of_kind (kind_at vs x)) (sym same) ∙ sym (boxed_rank (kind_at vs q) k g))
  held_rank e n what.Boxed (q ∷ r ∷ more) k rs p held t g = never t
  held_rank e n w os k rs p held t g = cc

  held_at_rank : (v p : ValueId) → is_target (kind_at vs v) ≡ true → held_at gs v.number ≡ Some p → (is_target (kind_at vs p) ≡ true) × (rank_of_kind (kind_at vs p) ≡ rank_of_kind (kind_at vs v))
  held_at_rank v p h held =
      let g = given_at v h in
      let o = out-Op g.op in
      let under = held_rank g.form.elemental v.number o.what o.operands o.kind g.form.regions p (ap (λ x. held_given x v.number) (sym g.stands) ∙ held) g.form.takes_form g.form.gives_form in
      (under.0, under.1 ∙ ap rank_of_kind g.kind_is)

  abbrev HasRank : ValueId → Type 0
  HasRank v = is_target (kind_at vs v) ≡ true → rank_at (variable_of gs v.number) ≡ rank_of_kind (kind_at vs v)

  rank_held : (v : ValueId) (o : Option ValueId) → ((p : ValueId) → p.number < v.number → HasRank p) → held_at gs v.number ≡ o → HasRank v
  rank_held v (Some p) earlier held h =
      let under = held_at_rank v p h held in
      ap rank_at (variable_of-box gs v.number p held) ∙ (earlier p (held_at-earlier gs v.number p held) under.0 ∙ under.1)
  rank_held v None earlier held h = let g = given_at v h in ap rank_at (variable_of-itself gs v.number held) ∙ ap rank_of_kind (ap kind_given g.stands ∙ g.kind_is)

  rank_below : (bound : ℕ) (v : ValueId) → v.number < bound → HasRank v
  rank_below zero v below = absurd (omega arith)
  rank_below (suc bound) v below = rank_held v (held_at gs v.number) (λ p earlier. rank_below bound p (omega arith)) refl

  -- The variable under boxes has their rank.
  rank_under : (v : ValueId) → HasRank v
  rank_under v = rank_below (suc v.number) v (omega arith)

  of_designate : (e : Bool) (n : ℕ) (subs : List SubKind) (os : List ValueId) (k : Option ValueKind) (rs : List Region) → takes e vs (what.Designate subs) os rs ≡ true →
      length (designator_by gs n (what.Designate subs) os k).forms ≡ rank_at (designator_by gs n (what.Designate subs) os k).var
  of_designate e n subs [] k rs t = never t
  of_designate e n subs (r ∷ more) k rs t =
      let parts = and_parts (is_reference (kind_at vs r) && has_rank (length subs) (kind_at vs r)) (take_subscripts vs subs more) t in
      let base = and_parts (is_reference (kind_at vs r)) (has_rank (length subs) (kind_at vs r)) parts.0 in
      length-forms_of gs vs subs more parts.1 ∙ sym (rank_under r (reference_target (kind_at vs r) base.0) ∙ rank_is (length subs) (kind_at vs r) base.1)

  of_op : (n : ℕ) (w : What) (os : List ValueId) (k : Option ValueKind) (fit : Fits vs n w os k) → names_part w ≡ true → rank_at (variable_of gs n) ≡ rank_of_kind k → length (designator_by gs n w os k).forms ≡ rank_at (designator_by gs n w os k).var
  of_op n (what.Declare name) os k fit names rank = length-whole_forms (variable_of gs n) k fit.gives_form (and_parts (nat_lt (declares_in fit.before) declare_limit) (is_small k) fit.limits).1 ∙ sym rank
  of_op n what.Boxed os k fit names rank = boxed_forms (first_kind vs os) k (variable_of gs n) fit.gives_form ∙ sym rank
  of_op n (what.Designate subs) os k fit names rank = of_designate fit.elemental n subs os k fit.regions fit.takes_form
  of_op n w os k fit names rank = never names

  of_value : (v : ValueId) → is_target (kind_at vs v) ≡ true → length (designator_at gs v.number).forms ≡ rank_at (designator_at gs v.number).var
  unfolding designator_at
  of_value v h =
      let g = given_at v h in
      let o = out-Op g.op in
      let P : Option Op → Type 0 = λ x. length (designator_given gs v.number x).forms ≡ rank_at (designator_given gs v.number x).var in
      let names = gives_target vs o.what o.operands o.kind g.form.regions g.form.gives_form (ap is_target g.kind_is ∙ h) in
      subst P (sym g.stands) (of_op v.number o.what o.operands o.kind g.form names (rank_under v h ∙ ap rank_of_kind (sym g.kind_is)))

pub EachHasItsDimensions-all : (m : Module) → EachHasItsDimensions m
EachHasItsDimensions-all m kept v h = of_value (values_of m.ops) (givers_of m.ops) (given m kept) v h

-- a designator that is asked of the table of the module
pub result_has_dimensions : (m : Module) (v : ValueId) (gs : List Op) {E : Type 0} (r : Result Designator E) → KeepsRules m → IsDesignator m v → gs ≡ givers_of m.ops → IfOk r (λ d. d ≡ designator_at gs v.number) → IfOk r (HasDimensions m)
result_has_dimensions m v gs (Ok d) kept h table same = subst (HasDimensions m) (sym (same ∙ ap (λ g. designator_at g v.number) table)) (EachHasItsDimensions-all m kept v h)
result_has_dimensions m v gs (Err e) kept h table same = tt
