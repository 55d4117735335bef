-- What the rules ask of the form of an op that gives a reference or section.
use Rattle.std.proofs.Common.{◌≡◌, refl, sym, ◌∙◌, ℕ, zero, suc, Bool, true, false, ◌&&◌, List, [], ◌∷◌, length, Option, Some, None, ℤ}
use Rattle.std.specs.Prelude.{slice_get}
use Rattle.std.specs.List.{list_all}
use Rattle.std.proofs.lemmas.Bool.{and_parts}
use Rattle.hlfir_ops.specs.declared.kinds.Elem.{Elem}
use Rattle.hlfir_ops.specs.declared.kinds.Elem.TheVariants.{I32, I1}
use Rattle.hlfir_ops.specs.declared.kinds.ValueKind.{ValueKind}
use Rattle.hlfir_ops.specs.declared.kinds.ValueKind.TheVariants as kind
use Rattle.hlfir_ops.specs.declared.what.What.{What}
use Rattle.hlfir_ops.specs.declared.what.What.TheVariants as what
use Rattle.hlfir_ops.specs.declared.op.ValueId.{ValueId}
use Rattle.hlfir_ops.specs.declared.op.Op.{Op, out-Op}
use Rattle.hlfir_ops.specs.declared.op.Region.{Region}
use Rattle.hlfir_ops.specs.declared.op.Module.{Module}
use Rattle.hlfir_ops.specs.RulesValues.{Value, values_of, kind_at, elem_of, is_scalar, is_allocatable, is_reference, is_target}
use Rattle.hlfir_ops.specs.RulesRegions.{first_kind, parts_in, ops_in}
use Rattle.hlfir_ops.specs.RulesForms.{has_regions, is_filled_where, takes, gives, is_none, has_constant, is_scalar_of, second_kind, is_array_of, rank_of_kind, is_elemental_of, unary_elem, result_elem, total_elem}
use Rattle.hlfir_ops.specs.RulesPlaces.{Place}
use Rattle.hlfir_ops.specs.Rules.{Facts, facts_of, kept, are_defined, operands_fit, result_fits, own_limits, counts_fit, limits_fit, KeepsRules}
use Rattle.alias_test.specs.Givers.{givers_of}
use Rattle.alias_test.specs.Symbols.{are_earlier}
use Rattle.alias_test.proofs.Numbers.{never}
use Rattle.alias_test.proofs.Sited.{IsJudged, giver_judged, defined_earlier}
use Rattle.alias_test.proofs.Valued.{giver_of_target, values_zip}

-- ---- what the rules say of one op

true_at : (bs : List Bool) (k : ℕ) (b : Bool) → list_all (λ x. x) bs ≡ true → slice_get bs k ≡ Some b → b ≡ true
true_at [] k b h e = cc
true_at (x ∷ xs) zero b h e = let same : x ≡ b = cc in sym same ∙ (and_parts x (list_all (λ y. y) xs) h).0
true_at (x ∷ xs) (suc k) b h e = true_at xs k b (and_parts x (list_all (λ y. y) xs) h).1 e

-- The operands and result of an op of this sort, which gives the value of this number, are those of its form; the operands are earlier values; and if it is a
-- declare it is small.
pub record Fits (vs : List Value) (n : ℕ) (w : What) (os : List ValueId) (k : Option ValueKind) : Type 0 where
  pub elemental : Bool
  pub regions : List Region
  pub bodies : ℕ
  pub before : List Op
  pub earlier : are_earlier n os ≡ true
  pub takes_form : takes elemental vs w os regions ≡ true
  pub gives_form : gives vs w os k regions ≡ true
  pub limits : own_limits bodies before w os k ≡ true

fits : (f : Facts) (n : ℕ) (op : Op) → IsJudged f n op → Fits f.values n (out-Op op).what (out-Op op).operands (out-Op op).kind
unfolding are_defined operands_fit result_fits limits_fit
fits f n op judged =
    let p : Place = judged.place in
    let o = out-Op op in
    let defined = true_at (kept f p op) 0 (are_defined p.defined (out-Op op).operands) judged.keeps_all refl in
    let operands = true_at (kept f p op) 1 (operands_fit p.around.elemental f.values op) judged.keeps_all refl in
    let result = true_at (kept f p op) 2 (result_fits f.values op) judged.keeps_all refl in
    let limits = true_at (kept f p op) 11 (limits_fit p.around f.values p.before op) judged.keeps_all refl in
    record {
      elemental = p.around.elemental;
      regions = o.regions;
      bodies = p.around.bodies;
      before = p.before;
      earlier = defined_earlier p.number n p.defined o.operands judged.no_later judged.defined defined;
      takes_form = (and_parts (has_regions o.what (length o.regions) && is_filled_where o.what o.regions) (takes p.around.elemental f.values o.what o.operands o.regions) operands).1;
      gives_form = result;
      limits = (and_parts (own_limits p.around.bodies p.before o.what o.operands o.kind) (counts_fit p.around.masked p.around.shared f.values o.what op) limits).0;
    }

-- What gives this value fits.
pub record IsGiven (vs : List Value) (gs : List Op) (v : ValueId) : Type 0 where
  pub op : Op
  pub stands : slice_get gs v.number ≡ Some op
  pub kind_is : (out-Op op).kind ≡ kind_at vs v
  pub form : Fits vs v.number (out-Op op).what (out-Op op).operands (out-Op op).kind

pub given : (m : Module) → KeepsRules m → (v : ValueId) → is_target (kind_at (values_of m.ops) v) ≡ true → IsGiven (values_of m.ops) (givers_of m.ops) v
given m keep v h =
    let g = giver_of_target (values_of m.ops) (givers_of m.ops) v.number (values_zip m.ops) h in
    record { op = g.0; stands = g.1; kind_is = g.2; form = fits (facts_of m) v.number g.0 (giver_judged m v.number g.0 keep g.1) }

-- ---- kinds that are no reference or section

scalar_no : {A : Type 0} (e : Elem) (k : Option ValueKind) → is_scalar e k ≡ true → is_target k ≡ true → A
scalar_no e (Some (kind.Scalar f)) h t = never t
scalar_no e _ h t = never h

scalar_of_no : {A : Type 0} (o k : Option ValueKind) → is_scalar_of o k ≡ true → is_target k ≡ true → A
scalar_of_no (Some o) k h t = scalar_no (elem_of o) k h t
scalar_of_no None k h t = never h

constant_no : {A : Type 0} (c : ℤ) (k : Option ValueKind) → has_constant c k ≡ true → is_target k ≡ true → A
constant_no c (Some (kind.Scalar e)) h t = never t
constant_no c _ h t = never h

array_no : {A : Type 0} (o : Option ValueKind) (n : ℕ) (k : Option ValueKind) → is_array_of o n k ≡ true → is_target k ≡ true → A
array_no (Some o) n (Some (kind.Array e rank)) h t = never t
array_no (Some o) n _ h t = never h
array_no None n k h t = never h

elemental_no : {A : Type 0} (vs : List Value) (ops : List Op) (o k : Option ValueKind) → is_elemental_of vs ops o k ≡ true → is_target k ≡ true → A
elemental_no vs ops (Some o) (Some (kind.Array e rank)) h t = never t
elemental_no vs ops (Some o) _ h t = never h
elemental_no vs ops None k h t = never h

none_no : {A : Type 0} (k : Option ValueKind) → is_none k ≡ true → is_target k ≡ true → A
none_no None h t = never t
none_no (Some k) h t = never h

-- ---- what gives a reference or section

abbrev pub names_part : What → Bool
names_part (what.Declare name) = true
names_part what.Boxed = true
names_part (what.Designate subs) = true
names_part w = false

pub gives_target : (vs : List Value) (w : What) (os : List ValueId) (k : Option ValueKind) (rs : List Region) → gives vs w os k rs ≡ true → is_target k ≡ true → names_part w ≡ true
gives_target vs (what.Declare name) os k rs g t = refl
gives_target vs what.Boxed os k rs g t = refl
gives_target vs (what.Designate subs) os k rs g t = refl
gives_target vs (what.Constant c) os k rs g t = constant_no c k g t
gives_target vs (what.Unary op) os k rs g t = scalar_no (unary_elem op) k g t
gives_target vs (what.Binary op) os k rs g t = scalar_no (result_elem op) k g t
gives_target vs what.Select os k rs g t = scalar_of_no (second_kind vs os) k g t
gives_target vs what.Load os k rs g t = scalar_of_no (first_kind vs os) k g t
gives_target vs (what.Bound word dim) os k rs g t = scalar_no I32 k g t
gives_target vs what.Size os k rs g t = scalar_no I32 k g t
gives_target vs what.Allocated os k rs g t = scalar_no I1 k g t
gives_target vs what.Vector os k rs g t = array_no (first_kind vs os) 1 k g t
gives_target vs what.AsExpr os k rs g t = array_no (first_kind vs os) (rank_of_kind (first_kind vs os)) k g t
gives_target vs what.Elemental os k rs g t = elemental_no vs (ops_in rs 0) (first_kind vs (parts_in rs 0)) k g t
gives_target vs what.Apply os k rs g t = scalar_of_no (first_kind vs os) k g t
gives_target vs (what.Reduce r) os k rs g t = scalar_no (total_elem r) k g t
gives_target vs w os k rs g t = none_no k g t

-- ---- references

pub allocatable_target : (k : Option ValueKind) → is_allocatable k ≡ true → is_target k ≡ true
allocatable_target (Some (kind.Allocatable e rank)) h = refl
allocatable_target _ h = never h

pub reference_target : (k : Option ValueKind) → is_reference k ≡ true → is_target k ≡ true
reference_target (Some (kind.Declared e shape)) h = refl
reference_target (Some (kind.Allocatable e rank)) h = refl
reference_target _ h = never h
