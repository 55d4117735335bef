-- Designators of one variable have equally many forms in a module that keeps the rules.
use Rattle.std.proofs.Common.{◌≡◌, refl, ap, sym, ◌∙◌, ℕ, zero, suc, true, false, List, [], ◌∷◌, ◌++◌, map, inl, inr, ◌⊎◌, Option, Some, None}
use Rattle.std.specs.Prelude.{slice_get}
use Rattle.std.specs.List.{AllZip}
use Rattle.std.proofs.lemmas.Bool.{false≢true, or_cases}
use mathlib.Core.Former.{Count}
use Rattle.ws_base.specs.declared.name.Name.{Name}
use Rattle.hlfir_ops.specs.declared.kinds.ValueKind.{ValueKind}
use Rattle.hlfir_ops.specs.declared.kinds.ValueKind.TheVariants as kind
use Rattle.hlfir_ops.specs.declared.what.What.{What}
use Rattle.hlfir_ops.specs.declared.what.What.TheVariants as what
use Rattle.hlfir_ops.specs.declared.op.ValueId.{ValueId}
use Rattle.hlfir_ops.specs.declared.op.Op.{Op, Op', out-Op, roll-Op, roll-out-Op}
use Rattle.hlfir_ops.specs.declared.op.Region.{Region'}
use Rattle.hlfir_ops.specs.declared.op.Module.{Module}
use Rattle.hlfir_ops.specs.Opened.{trees_open}
use Rattle.hlfir_ops.specs.Trees.{Ops, end_ops, more_ops, Regions, end_regions, more_regions}
use Rattle.hlfir_ops.specs.Numbers.{names_in}
use Rattle.hlfir_ops.specs.Rules.{KeepsRules}
use Rattle.hlfir_ops.specs.RulesForms.{rank_of_kind}
use Rattle.hlfir_ops.specs.RulesStatements.{is_forall}
use Rattle.hlfir_ops.specs.RulesValues.{Value, own_values, value_of_name, op_values, regions_values, ops_values, values_of, kind_of, is_target, is_place, is_reference, is_section}
use Rattle.alias_test.specs.Givers.{own_givers, op_givers, regions_givers, ops_givers, givers_of, kind_given}
use Rattle.alias_test.proofs.Dimensions.{EachHasItsDimensions-all}
use Rattle.assign_schedule.specs.Parts.{is_array_by, is_array_given, is_element_by, is_element_given, is_part_of_array, IsPart, HaveOneRank}

-- ---- the values of a module beside the ops that give them

-- The op gives a value of its kind, or it is the forall of an index name.
abbrev Gives : Value → Op → Type 0
Gives v op = ((out-Op op).kind ≡ Some v.kind) ⊎ (is_forall (out-Op op).what ≡ true)

zip_append : (us vs : List Value) (fs gs : List Op) → AllZip Gives us fs → AllZip Gives vs gs → AllZip Gives (us ++ vs) (fs ++ gs)
zip_append [] vs [] gs a b = b
zip_append [] vs (f ∷ fs) gs a b = absurd a
zip_append (u ∷ us) vs [] gs a b = absurd a
zip_append (u ∷ us) vs (f ∷ fs) gs a b = (a.0, zip_append us vs fs gs a.1 b)

own_zip : (w : What) (op : Op) (k : Option ValueKind) → (out-Op op).kind ≡ k → AllZip Gives (own_values w k) (own_givers op k)
own_zip w op (Some k) e = (inl e, tt)
own_zip w op None e = tt

each_name : (op : Op) (names : List Name) → is_forall (out-Op op).what ≡ true → AllZip Gives (map value_of_name names) (map (λ name. op) names)
each_name op [] e = tt
each_name op (name ∷ names) e = (inr e, each_name op names e)

names_zip : (op : Op) (w : What) (k : ℕ) → (out-Op op).what ≡ w → AllZip Gives (map value_of_name (names_in w k)) (map (λ name. op) (names_in w k))
names_zip op (what.Forall names) (suc zero) e = each_name op names (ap is_forall e)
names_zip op w k e = tt

abbrev what_of : Op → What
what_of (Op' w line os k _ regions) = w

abbrev own_kind : Op → Option ValueKind
own_kind (Op' w line os k _ regions) = k

what_rolled : (op : Op) → (out-Op op).what ≡ what_of (roll-Op (out-Op op))
unfolding trees_open
what_rolled op = refl

kind_rolled : (op : Op) → (out-Op op).kind ≡ own_kind (roll-Op (out-Op op))
unfolding trees_open
kind_rolled op = refl

what_field : (op : Op) → (out-Op op).what ≡ what_of op
what_field op = what_rolled op ∙ ap what_of (roll-out-Op op)

kind_field : (op : Op) → (out-Op op).kind ≡ own_kind op
kind_field op = kind_rolled op ∙ ap own_kind (roll-out-Op op)

mutual
  op_zip : (op : Op) → AllZip Gives (op_values op) (op_givers op)
  op_zip (Op' w line os k g regions) =
      zip_append (own_values w k) (regions_values w 0 regions) (own_givers (Op' w line os k g regions) k) (regions_givers (Op' w line os k g regions) w 0 regions) (own_zip w (Op' w line os k g regions) k (kind_field (Op' w line os k g regions)))
      (regions_zip (Op' w line os k g regions) w (what_field (Op' w line os k g regions)) 0 regions)

  regions_zip : {m : Count} (op : Op) (w : What) → (out-Op op).what ≡ w → (k : ℕ) (regions : Regions m) → AllZip Gives (regions_values w k regions) (regions_givers op w k regions)
  regions_zip op w e k end_regions = tt
  regions_zip op w e k (more_regions (Region' g ops) regions) =
      zip_append (map value_of_name (names_in w k) ++ ops_values ops) (regions_values w (suc k) regions) (map (λ name. op) (names_in w k) ++ ops_givers ops) (regions_givers op w (suc k) regions)
      (zip_append (map value_of_name (names_in w k)) (ops_values ops) (map (λ name. op) (names_in w k)) (ops_givers ops) (names_zip op w k e) (ops_zip ops)) (regions_zip op w e (suc k) regions)

  ops_zip : {m : Count} (ops : Ops m) → AllZip Gives (ops_values ops) (ops_givers ops)
  ops_zip end_ops = tt
  ops_zip (more_ops op ops) = zip_append (op_values op) (ops_values ops) (op_givers op) (ops_givers ops) (op_zip op) (ops_zip ops)

values_zip : (ops : List Op) → AllZip Gives (values_of ops) (givers_of ops)
values_zip [] = tt
values_zip (op ∷ ops) = zip_append (op_values op) (values_of ops) (op_givers op) (givers_of ops) (op_zip op) (values_zip ops)

-- ---- parts of arrays are references and sections

no : {A : Type 0} → false ≡ true → A
no h = absurd (false≢true h)

abbrev Designates : What → Option ValueKind → Type 0
Designates w k = (is_target k ≡ true) × (is_forall w ≡ false)

reference_target : (k : Option ValueKind) → is_reference k ≡ true → is_target k ≡ true
reference_target (Some (kind.Declared e shape)) h = refl
reference_target (Some (kind.Allocatable e rank)) h = refl
reference_target (Some (kind.Scalar e)) h = no h
reference_target (Some (kind.Place e)) h = no h
reference_target (Some (kind.Section e rank)) h = no h
reference_target (Some (kind.Array e rank)) h = no h
reference_target None h = no h

section_target : (k : Option ValueKind) → is_section k ≡ true → is_target k ≡ true
section_target (Some (kind.Section e rank)) h = refl
section_target (Some (kind.Declared e shape)) h = no h
section_target (Some (kind.Allocatable e rank)) h = no h
section_target (Some (kind.Scalar e)) h = no h
section_target (Some (kind.Place e)) h = no h
section_target (Some (kind.Array e rank)) h = no h
section_target None h = no h

place_target : (k : Option ValueKind) → is_place k ≡ true → is_target k ≡ true
place_target (Some (kind.Place e)) h = refl
place_target (Some (kind.Declared e shape)) h = no h
place_target (Some (kind.Allocatable e rank)) h = no h
place_target (Some (kind.Scalar e)) h = no h
place_target (Some (kind.Section e rank)) h = no h
place_target (Some (kind.Array e rank)) h = no h
place_target None h = no h

array_designates : (w : What) (k : Option ValueKind) → is_array_by w k ≡ true → Designates w k
array_designates (what.Declare name) k h = (reference_target k h, refl)
array_designates what.Boxed k h = (reference_target k h, refl)
array_designates (what.Designate subs) k h = (section_target k h, refl)
array_designates w k h = no h

element_designates : (w : What) (k : Option ValueKind) → is_element_by w k ≡ true → Designates w k
element_designates (what.Designate subs) k h = (place_target k h, refl)
element_designates w k h = no h

part_designates : (op : Op) → is_part_of_array (Some op) ≡ true → Designates (out-Op op).what (out-Op op).kind
part_designates op h = elim (or_cases (is_array_given (Some op)) (is_element_given (Some op)) h) [
  | inl array ↦ array_designates (out-Op op).what (out-Op op).kind array
  | inr element ↦ element_designates (out-Op op).what (out-Op op).kind element
]

value_target : (v : Value) (op : Op) → Gives v op → Designates (out-Op op).what (out-Op op).kind → is_target (Some v.kind) ≡ true
value_target v op (inl same) d = ap is_target (sym same) ∙ d.0
value_target v op (inr names) d = no (sym d.1 ∙ names)

part_target : (vs : List Value) (gs : List Op) (n : ℕ) → AllZip Gives vs gs → IsPart gs n → is_target (kind_of (slice_get vs n)) ≡ true
part_target [] [] n zip part = no part
part_target [] (op ∷ gs) n zip part = absurd zip
part_target (v ∷ vs) [] n zip part = absurd zip
part_target (v ∷ vs) (op ∷ gs) zero zip part = value_target v op zip.0 (part_designates op part)
part_target (v ∷ vs) (op ∷ gs) (suc n) zip part = part_target vs gs n zip.1 part

pub one_rank : (m : Module) → KeepsRules m → HaveOneRank (givers_of m.ops)
one_rank m kept a b first second same =
    let at : ℕ → ValueId = λ n. record { number = n } in
    let target = λ (n : ℕ). λ (part : IsPart (givers_of m.ops) n). part_target (values_of m.ops) (givers_of m.ops) n (values_zip m.ops) part in
    EachHasItsDimensions-all m kept (at a) (target a first)
    ∙ (ap (λ n. rank_of_kind (kind_given (slice_get (givers_of m.ops) n))) same ∙ sym (EachHasItsDimensions-all m kept (at b) (target b second)))
