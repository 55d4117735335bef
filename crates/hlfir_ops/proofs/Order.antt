-- The printed order of an op's ops, by its fields.
use Rattle.std.proofs.Common.{◌≡◌, refl, sym, ap, ◌∙◌, List, [], ◌∷◌, ◌++◌, append_assoc}
use Rattle.hlfir_ops.specs.declared.op.Op.{Op, out-Op, roll-Op, roll-out-Op}
use Rattle.hlfir_ops.specs.declared.op.Region.{Region, out-Region, roll-Region, roll-out-Region}
use Rattle.hlfir_ops.specs.declared.op.Op.TheBlock.{hidden-the_row-Region-0, hidden-the_row-Op-1}
use Rattle.hlfir_ops.specs.Opened.{trees_open}
use Rattle.hlfir_ops.specs.Numbers.{op_order, regions_order, ops_order, order_of, order_in}

ops_order-list : (ops : List Op) → ops_order (hidden-the_row-Op-1 ops) ≡ order_of ops
unfolding trees_open
ops_order-list [] = refl
ops_order-list (op ∷ ops) = ap (λ l. op_order op ++ l) (ops_order-list ops)

regions_front : (region : Region) (regions : List Region) → regions_order (hidden-the_row-Region-0 (roll-Region (out-Region region) ∷ regions)) ≡ ops_order (hidden-the_row-Op-1 (out-Region region).ops) ++ regions_order (hidden-the_row-Region-0 regions)
unfolding trees_open
regions_front region regions = refl

regions_order-list : (regions : List Region) → regions_order (hidden-the_row-Region-0 regions) ≡ order_in regions
unfolding trees_open
regions_order-list [] = refl
regions_order-list (region ∷ regions) =
    ap (λ r. regions_order (hidden-the_row-Region-0 (r ∷ regions))) (sym (roll-out-Region region)) ∙ (regions_front region regions ∙
    (ap (λ l. l ++ regions_order (hidden-the_row-Region-0 regions)) (ops_order-list (out-Region region).ops) ∙ ap (λ l. order_of (out-Region region).ops ++ l) (regions_order-list regions)))

op_front : (op : Op) → op_order (roll-Op (out-Op op)) ≡ roll-Op (out-Op op) ∷ regions_order (hidden-the_row-Region-0 (out-Op op).regions)
unfolding trees_open
op_front op = refl

pub op_order-parts : (op : Op) → op_order op ≡ op ∷ order_in (out-Op op).regions
op_order-parts op =
    ap op_order (sym (roll-out-Op op)) ∙ (op_front op ∙ (ap (λ o. o ∷ regions_order (hidden-the_row-Region-0 (out-Op op).regions)) (roll-out-Op op) ∙ ap (λ l. op ∷ l) (regions_order-list (out-Op op).regions)))

pub order_of-append : (a b : List Op) → order_of (a ++ b) ≡ order_of a ++ order_of b
order_of-append [] b = refl
order_of-append (op ∷ a) b = ap (λ l. op_order op ++ l) (order_of-append a b) ∙ sym (append_assoc (op_order op) (order_of a) (order_of b))
