-- The values of a module beside the ops that give them.
use Rattle.std.proofs.Common.{◌≡◌, refl, ap, ◌∙◌, subst, ℕ, zero, suc, true, List, [], ◌∷◌, ◌++◌, map, inl, inr, ◌⊎◌, Option, Some, None}
use Rattle.std.specs.Prelude.{slice_get}
use Rattle.std.specs.List.{AllZip}
use mathlib.Core.Former.{Count}
use Rattle.ws_base.specs.declared.name.Name.{Name}
use Rattle.hlfir_ops.specs.declared.kinds.Elem.TheVariants.{I32}
use Rattle.hlfir_ops.specs.declared.kinds.ValueKind.{ValueKind}
use Rattle.hlfir_ops.specs.declared.kinds.ValueKind.TheVariants.{Scalar}
use Rattle.hlfir_ops.specs.declared.what.What.{What}
use Rattle.hlfir_ops.specs.declared.what.What.TheVariants as what
use Rattle.hlfir_ops.specs.declared.op.Op.{Op, Op', out-Op, roll-Op, roll-out-Op}
use Rattle.hlfir_ops.specs.declared.op.Region.{Region'}
use Rattle.hlfir_ops.specs.Opened.{trees_open}
use Rattle.hlfir_ops.specs.Trees.{Ops, end_ops, more_ops, Regions, end_regions, more_regions}
use Rattle.hlfir_ops.specs.Numbers.{names_in}
use Rattle.hlfir_ops.specs.RulesStatements.{is_forall}
use Rattle.hlfir_ops.specs.RulesValues.{Value, own_values, value_of_name, op_values, regions_values, ops_values, values_of, kind_of, is_target}
use Rattle.alias_test.proofs.Numbers.{never}
use Rattle.alias_test.specs.Givers.{own_givers, op_givers, regions_givers, ops_givers, givers_of}

-- The op gives the value, which has its kind, or it is the forall of the index name that the value is.
abbrev pub GivenBy : Value → Op → Type 0
GivenBy v op = ((out-Op op).kind ≡ Some v.kind) ⊎ ((is_forall (out-Op op).what ≡ true) × (v.kind ≡ Scalar I32))

zip_append : (us vs : List Value) (fs gs : List Op) → AllZip GivenBy us fs → AllZip GivenBy vs gs → AllZip GivenBy (us ++ vs) (fs ++ gs)
zip_append [] vs [] gs a b = b
zip_append [] vs (f ∷ fs) gs a b = absurd a
zip_append (u ∷ us) vs [] gs a b = absurd a
zip_append (u ∷ us) vs (f ∷ fs) gs a b = (a.0, zip_append us vs fs gs a.1 b)

own_zip : (w : What) (op : Op) (k : Option ValueKind) → (out-Op op).kind ≡ k → AllZip GivenBy (own_values w k) (own_givers op k)
own_zip w op (Some kind) e = (inl e, tt)
own_zip w op None e = tt

each_name : (op : Op) (names : List Name) → is_forall (out-Op op).what ≡ true → AllZip GivenBy (map value_of_name names) (map (λ name. op) names)
each_name op [] e = tt
each_name op (name ∷ names) e = (inr (e, refl), each_name op names e)

names_zip : (op : Op) (w : What) (k : ℕ) → (out-Op op).what ≡ w → AllZip GivenBy (map value_of_name (names_in w k)) (map (λ name. op) (names_in w k))
names_zip op (what.Forall names) (suc zero) e = each_name op names (ap is_forall e)
names_zip op w k e = tt

abbrev own_what : Op → What
own_what (Op' w line os k _ regions) = w

abbrev own_kind : Op → Option ValueKind
own_kind (Op' w line os k _ regions) = k

-- what an op does and the kind of its value, as its fields and as it is written out
rolled : (op : Op) → ((out-Op op).what ≡ own_what (roll-Op (out-Op op))) × ((out-Op op).kind ≡ own_kind (roll-Op (out-Op op)))
unfolding trees_open
rolled op = (refl, refl)

own_what-field : (op : Op) → (out-Op op).what ≡ own_what op
own_what-field op = (rolled op).0 ∙ ap own_what (roll-out-Op op)

own_kind-field : (op : Op) → (out-Op op).kind ≡ own_kind op
own_kind-field op = (rolled op).1 ∙ ap own_kind (roll-out-Op op)

mutual
  op_zip : (op : Op) → AllZip GivenBy (op_values op) (op_givers op)
  op_zip (Op' w line os k g regions) =
      zip_append (own_values w k) (regions_values w 0 regions) (own_givers (Op' w line os k g regions) k) (regions_givers (Op' w line os k g regions) w 0 regions) (own_zip w (Op' w line os k g regions) k (own_kind-field (Op' w line os k g regions)))
      (regions_zip (Op' w line os k g regions) w (own_what-field (Op' w line os k g regions)) 0 regions)

  regions_zip : {m : Count} (op : Op) (w : What) → (out-Op op).what ≡ w → (k : ℕ) (regions : Regions m) → AllZip GivenBy (regions_values w k regions) (regions_givers op w k regions)
  regions_zip op w e k end_regions = tt
  regions_zip op w e k (more_regions (Region' g ops) regions) =
      zip_append (map value_of_name (names_in w k) ++ ops_values ops) (regions_values w (suc k) regions) (map (λ name. op) (names_in w k) ++ ops_givers ops) (regions_givers op w (suc k) regions)
      (zip_append (map value_of_name (names_in w k)) (ops_values ops) (map (λ name. op) (names_in w k)) (ops_givers ops) (names_zip op w k e) (ops_zip ops)) (regions_zip op w e (suc k) regions)

  ops_zip : {m : Count} (ops : Ops m) → AllZip GivenBy (ops_values ops) (ops_givers ops)
  ops_zip end_ops = tt
  ops_zip (more_ops op ops) = zip_append (op_values op) (ops_values ops) (op_givers op) (ops_givers ops) (op_zip op) (ops_zip ops)

pub values_zip : (ops : List Op) → AllZip GivenBy (values_of ops) (givers_of ops)
values_zip [] = tt
values_zip (op ∷ ops) = zip_append (op_values op) (values_of ops) (op_givers op) (givers_of ops) (op_zip op) (values_zip ops)

-- ---- a reference or section is given by an op of its kind

target_given : (v : Value) (op : Op) → GivenBy v op → is_target (Some v.kind) ≡ true → (out-Op op).kind ≡ Some v.kind
target_given v op (inl same) h = same
target_given v op (inr name) h = never (subst (λ (k : ValueKind). is_target (Some k) ≡ true) name.1 h)

pub giver_of_target : (vs : List Value) (gs : List Op) (n : ℕ) → AllZip GivenBy vs gs → is_target (kind_of (slice_get vs n)) ≡ true → (op : Op) × (slice_get gs n ≡ Some op) × ((out-Op op).kind ≡ kind_of (slice_get vs n))
giver_of_target [] gs n zip h = never h
giver_of_target (v ∷ vs) [] n zip h = absurd zip
giver_of_target (v ∷ vs) (op ∷ gs) zero zip h = (op, refl, target_given v op zip.0 h)
giver_of_target (v ∷ vs) (op ∷ gs) (suc n) zip h = giver_of_target vs gs n zip.1 h
