-- The values of ops: those of an op by its fields, and of one list after another.
use Rattle.std.proofs.Common.{◌≡◌, refl, sym, ap, ◌∙◌, ℕ, suc, List, [], ◌∷◌, ◌++◌, map, append_assoc}
use Rattle.hlfir_ops.specs.declared.what.What.{What}
use Rattle.hlfir_ops.specs.declared.op.Op.{Op, out-Op, roll-Op, roll-out-Op}
use Rattle.hlfir_ops.specs.declared.op.Region.{Region, out-Region, roll-Region, roll-out-Region}
use Rattle.hlfir_ops.specs.declared.op.Op.TheBlock.{hidden-the_row-Region-0, hidden-the_row-Op-1}
use Rattle.hlfir_ops.specs.Opened.{trees_open}
use Rattle.hlfir_ops.specs.Numbers.{names_in}
use Rattle.hlfir_ops.specs.RulesValues as values

ops_values-list : (ops : List Op) → values.ops_values (hidden-the_row-Op-1 ops) ≡ values.values_of ops
unfolding trees_open
ops_values-list [] = refl
ops_values-list (op ∷ ops) = ap (λ l. values.op_values op ++ l) (ops_values-list ops)

regions_values_front : (w : What) (k : ℕ) (region : Region) (regions : List Region) → values.regions_values w k (hidden-the_row-Region-0 (roll-Region (out-Region region) ∷ regions)) ≡
    (map values.value_of_name (names_in w k) ++ values.ops_values (hidden-the_row-Op-1 (out-Region region).ops)) ++ values.regions_values w (suc k) (hidden-the_row-Region-0 regions)
unfolding trees_open
regions_values_front w k region regions = refl

regions_values-list : (w : What) (k : ℕ) (regions : List Region) → values.regions_values w k (hidden-the_row-Region-0 regions) ≡ values.values_in w k regions
unfolding trees_open
regions_values-list w k [] = refl
regions_values-list w k (region ∷ regions) =
    ap (λ r. values.regions_values w k (hidden-the_row-Region-0 (r ∷ regions))) (sym (roll-out-Region region))
    ∙ (regions_values_front w k region regions
    ∙ (ap (λ l. (map values.value_of_name (names_in w k) ++ l) ++ values.regions_values w (suc k) (hidden-the_row-Region-0 regions)) (ops_values-list (out-Region region).ops)
    ∙ ap (λ l. (map values.value_of_name (names_in w k) ++ values.values_of (out-Region region).ops) ++ l) (regions_values-list w (suc k) regions)))

op_values_front : (op : Op) → values.op_values (roll-Op (out-Op op)) ≡ values.own_values (out-Op op).what (out-Op op).kind ++ values.regions_values (out-Op op).what 0 (hidden-the_row-Region-0 (out-Op op).regions)
unfolding trees_open
op_values_front op = refl

-- the value of an op, and those in its regions
pub op_values-parts : (op : Op) → values.op_values op ≡ values.own_values (out-Op op).what (out-Op op).kind ++ values.values_in (out-Op op).what 0 (out-Op op).regions
op_values-parts op =
    ap values.op_values (sym (roll-out-Op op))
    ∙ (op_values_front op ∙ ap (λ l. values.own_values (out-Op op).what (out-Op op).kind ++ l) (regions_values-list (out-Op op).what 0 (out-Op op).regions))

pub values_of-append : (xs ys : List Op) → values.values_of (xs ++ ys) ≡ values.values_of xs ++ values.values_of ys
values_of-append [] ys = refl
values_of-append (op ∷ xs) ys = ap (λ l. values.op_values op ++ l) (values_of-append xs ys) ∙ sym (append_assoc (values.op_values op) (values.values_of xs) (values.values_of ys))
