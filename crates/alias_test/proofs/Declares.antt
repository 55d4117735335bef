-- The variable of a designator is a declare.
use Rattle.std.proofs.Common.{◌≡◌, refl, sym, ap, ◌∙◌, subst, ℕ, zero, suc, ◌<◌, Bool, true, ◌&&◌, if◌then◌else◌, List, [], ◌∷◌, length, Option, Some, None, arith}
use Rattle.std.specs.Prelude.{slice_get, nat_lt}
use Rattle.std.proofs.lemmas.Bool.{and_parts}
use Rattle.hlfir_ops.specs.declared.kinds.ValueKind.{ValueKind}
use Rattle.hlfir_ops.specs.declared.kinds.ValueKind.TheVariants as kind
use Rattle.hlfir_ops.specs.declared.what.SubKind.{SubKind}
use Rattle.hlfir_ops.specs.declared.what.What.{What}
use Rattle.hlfir_ops.specs.declared.what.What.TheVariants as what
use Rattle.hlfir_ops.specs.declared.op.ValueId.{ValueId}
use Rattle.hlfir_ops.specs.declared.op.Op.{Op, out-Op}
use Rattle.hlfir_ops.specs.declared.op.Region.{Region}
use Rattle.hlfir_ops.specs.declared.op.Module.{Module}
use Rattle.hlfir_ops.specs.RulesValues.{Value, kind_at, values_of, is_allocatable, is_reference, has_rank, is_target}
use Rattle.hlfir_ops.specs.RulesRegions.{first_kind}
use Rattle.hlfir_ops.specs.RulesForms.{takes, is_boxed, is_part_of, section_rank, take_subscripts}
use Rattle.hlfir_ops.specs.RulesStatements.{is_declare}
use Rattle.alias_test.specs.Givers.{held_by, held_given, held_at, variable_of, givers_of}
use Rattle.alias_test.specs.Symbols.{are_earlier}
use Rattle.alias_test.specs.Normal.{designator_by, designator_given, designator_at}
use Rattle.alias_test.specs.Laws.{is_declared, EachIsOfADeclare}
use Rattle.alias_test.proofs.Boxes.{held_at-earlier, variable_of-box, variable_of-itself}
use Rattle.alias_test.proofs.Fitting.{Fits, IsGiven, given, names_part, gives_target, reference_target}
use Rattle.alias_test.proofs.Numbers.{never}

-- ---- kinds

allocatable_reference : (k : Option ValueKind) → is_allocatable k ≡ true → is_reference k ≡ true
allocatable_reference (Some (kind.Allocatable e rank)) h = refl
allocatable_reference _ h = never h

boxed_reference : (o k : Option ValueKind) → is_boxed o k ≡ true → is_reference k ≡ true
boxed_reference (Some o) (Some (kind.Allocatable e rank)) h = refl
boxed_reference (Some o) _ h = never h
boxed_reference None k h = never h

part_no : {A : Type 0} (o : Option ValueKind) (n : ℕ) (k : Option ValueKind) → is_part_of o n k ≡ true → is_reference k ≡ true → A
part_no (Some o) n (Some (kind.Declared e shape)) h r = never h
part_no (Some o) n (Some (kind.Allocatable e rank)) h r = never h
part_no (Some o) n _ h r = never r
part_no None n k h r = never h

-- ---- the values of a module that keeps the rules

module _ (vs : List Value) (gs : List Op) (given_at : (v : ValueId) → is_target (kind_at vs v) ≡ true → IsGiven vs gs v) where
  abbrev IsDeclared : ℕ → Type 0
  IsDeclared n = is_declared (slice_get gs n) ≡ true

  -- A box holds its operand, which is a reference.
  holds : (e : Bool) (n : ℕ) (os : List ValueId) (rs : List Region) → takes e vs what.Boxed os rs ≡ true → are_earlier n os ≡ true → (p : ValueId) × (held_by what.Boxed os n ≡ Some p) × (is_reference (kind_at vs p) ≡ true)
  holds e n [] rs t b = never t
  holds e n (p ∷ []) rs t b = (p, ap (λ x. if x then Some p else None) (and_parts (nat_lt p.number n) true b).0, allocatable_reference (kind_at vs p) t)
  holds e n (p ∷ q ∷ more) rs t b = never t

  abbrev IsOfADeclare : ValueId → Type 0
  IsOfADeclare v = is_reference (kind_at vs v) ≡ true → IsDeclared (variable_of gs v.number)

  itself : (n : ℕ) → held_at gs n ≡ None → IsDeclared n → IsDeclared (variable_of gs n)
  itself n held own = ap (λ x. is_declared (slice_get gs x)) (variable_of-itself gs n held) ∙ own

  under_by : (v : ValueId) (w : What) (os : List ValueId) (k : Option ValueKind) → ((p : ValueId) → p.number < v.number → IsOfADeclare p) → Fits vs v.number w os k → names_part w ≡ true → is_reference k ≡ true → held_at gs v.number ≡ held_by w os v.number →
      is_declared (slice_get gs v.number) ≡ is_declare w → IsDeclared (variable_of gs v.number)
  under_by v (what.Declare name) os k earlier fit names r held own = itself v.number held own
  under_by v what.Boxed os k earlier fit names r held own =
      let box = holds fit.elemental v.number os fit.regions fit.takes_form fit.earlier in
      let same : held_at gs v.number ≡ Some box.0 = held ∙ box.1 in
      ap (λ x. is_declared (slice_get gs x)) (variable_of-box gs v.number box.0 same) ∙ earlier box.0 (held_at-earlier gs v.number box.0 same) box.2
  under_by v (what.Designate subs) os k earlier fit names r held own = part_no (first_kind vs os) (section_rank subs) k fit.gives_form r
  under_by v w os k earlier fit names r held own = never names

  under_step : (v : ValueId) → ((p : ValueId) → p.number < v.number → IsOfADeclare p) → IsOfADeclare v
  under_step v earlier r =
      let h = reference_target (kind_at vs v) r in
      let g = given_at v h in
      let o = out-Op g.op in
      let names = gives_target vs o.what o.operands o.kind g.form.regions g.form.gives_form (ap is_target g.kind_is ∙ h) in
      under_by v o.what o.operands o.kind earlier g.form names (ap is_reference g.kind_is ∙ r) (ap (λ x. held_given x v.number) g.stands) (ap is_declared g.stands)

  under_below : (bound : ℕ) (v : ValueId) → v.number < bound → IsOfADeclare v
  under_below zero v below = absurd (omega arith)
  under_below (suc bound) v below = under_step v (λ p earlier. under_below bound p (omega arith))

  -- Under the boxes of a reference stands a declare.
  under : (v : ValueId) → IsOfADeclare v
  under v = under_below (suc v.number) v (omega arith)

  of_designate : (e : Bool) (n : ℕ) (subs : List SubKind) (os : List ValueId) (k : Option ValueKind) (rs : List Region) → takes e vs (what.Designate subs) os rs ≡ true → IsDeclared (designator_by gs n (what.Designate subs) os k).var
  of_designate e n subs [] k rs t = never t
  of_designate e n subs (r ∷ more) k rs t =
      let parts = and_parts (is_reference (kind_at vs r) && has_rank (length subs) (kind_at vs r)) (take_subscripts vs subs more) t in
      under r (and_parts (is_reference (kind_at vs r)) (has_rank (length subs) (kind_at vs r)) parts.0).0

  of_op : (v : ValueId) (w : What) (os : List ValueId) (k : Option ValueKind) → Fits vs v.number w os k → names_part w ≡ true → k ≡ kind_at vs v → held_at gs v.number ≡ held_by w os v.number → is_declared (slice_get gs v.number) ≡ is_declare w →
      IsDeclared (designator_by gs v.number w os k).var
  of_op v (what.Declare name) os k fit names same held own = itself v.number held own
  of_op v what.Boxed os k fit names same held own = under v (sym (ap is_reference same) ∙ boxed_reference (first_kind vs os) k fit.gives_form)
  of_op v (what.Designate subs) os k fit names same held own = of_designate fit.elemental v.number subs os k fit.regions fit.takes_form
  of_op v w os k fit names same held own = never names

  of_value : (v : ValueId) → is_target (kind_at vs v) ≡ true → IsDeclared (designator_at gs v.number).var
  unfolding designator_at
  of_value v h =
      let g = given_at v h in
      let o = out-Op g.op in
      let P : Option Op → Type 0 = λ x. IsDeclared (designator_given gs v.number x).var in
      let names = gives_target vs o.what o.operands o.kind g.form.regions g.form.gives_form (ap is_target g.kind_is ∙ h) in
      subst P (sym g.stands) (of_op v o.what o.operands o.kind g.form names g.kind_is (ap (λ x. held_given x v.number) g.stands) (ap is_declared g.stands))

pub EachIsOfADeclare-all : (m : Module) → EachIsOfADeclare m
EachIsOfADeclare-all m kept v h = of_value (values_of m.ops) (givers_of m.ops) (given m kept) v h
