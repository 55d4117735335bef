-- Ops give as many values as they take numbers.
use Rattle.std.proofs.Common.{◌≡◌, refl, ap, ◌∙◌, ℕ, suc, ◌+◌, List, [], ◌∷◌, ◌++◌, map, length, Option, Some, None}
use Rattle.std.proofs.lemmas.List.{length-append, length-map}
use mathlib.Core.Former.{Count}
use Rattle.hlfir_ops.specs.declared.kinds.ValueKind.{ValueKind}
use Rattle.hlfir_ops.specs.declared.what.What.{What}
use Rattle.hlfir_ops.specs.declared.op.Op.{Op, Op'}
use Rattle.hlfir_ops.specs.declared.op.Region.{Region'}
use Rattle.hlfir_ops.specs.Trees.{Ops, end_ops, more_ops, Regions, end_regions, more_regions}
use Rattle.hlfir_ops.specs.Numbers.{names_in, own_numbers, op_numbers, regions_numbers, ops_numbers, numbers_of}
use Rattle.hlfir_ops.specs.RulesValues as values

own_values-length : (w : What) (kind : Option ValueKind) → length (values.own_values w kind) ≡ own_numbers kind
own_values-length w (Some k) = refl
own_values-length w None = refl

mutual
  pub op_values-length : (op : Op) → length (values.op_values op) ≡ op_numbers op
  op_values-length (Op' w line operands kind _ regions) =
      length-append (values.own_values w kind) (values.regions_values w 0 regions)
      ∙ (ap (λ n. n + length (values.regions_values w 0 regions)) (own_values-length w kind) ∙ ap (λ n. own_numbers kind + n) (regions_values-length w 0 regions))

  regions_values-length : {m : Count} (w : What) (k : ℕ) (regions : Regions m) → length (values.regions_values w k regions) ≡ regions_numbers w k regions
  regions_values-length w k end_regions = refl
  regions_values-length w k (more_regions (Region' _ ops) regions) =
      length-append (map values.value_of_name (names_in w k) ++ values.ops_values ops) (values.regions_values w (suc k) regions)
      ∙ (ap (λ n. n + length (values.regions_values w (suc k) regions)) (length-append (map values.value_of_name (names_in w k)) (values.ops_values ops)
      ∙ (ap (λ n. n + length (values.ops_values ops)) (length-map (names_in w k) values.value_of_name) ∙ ap (λ n. length (names_in w k) + n) (ops_values-length ops)))
      ∙ ap (λ n. (length (names_in w k) + ops_numbers ops) + n) (regions_values-length w (suc k) regions))

  ops_values-length : {m : Count} (ops : Ops m) → length (values.ops_values ops) ≡ ops_numbers ops
  ops_values-length end_ops = refl
  ops_values-length (more_ops op ops) =
      length-append (values.op_values op) (values.ops_values ops) ∙ (ap (λ n. n + length (values.ops_values ops)) (op_values-length op) ∙ ap (λ n. op_numbers op + n) (ops_values-length ops))

pub values_of-length : (ops : List Op) → length (values.values_of ops) ≡ numbers_of ops
values_of-length [] = refl
values_of-length (op ∷ ops) =
    length-append (values.op_values op) (values.values_of ops) ∙ (ap (λ n. n + length (values.values_of ops)) (op_values-length op) ∙ ap (λ n. op_numbers op + n) (values_of-length ops))
