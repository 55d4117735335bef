-- Groups, by the fields of ops.
use Rattle.std.proofs.Common.{◌≡◌, refl, sym, ap, ◌∙◌, ℕ, ◌+◌, ◌<◌, List, [], ◌∷◌, ◌++◌, length, drop, get_or}
use Rattle.std.specs.Borrow.{Bor}
use Rattle.hlfir_ops.specs.declared.op.Op.{Op, out-Op, roll-Op, roll-out-Op}
use Rattle.hlfir_ops.specs.declared.op.Region.{Region, out-Region, roll-Region, roll-out-Region}
use Rattle.hlfir_ops.specs.declared.op.Op.TheBlock.{hidden-the_row-Region-0, hidden-the_row-Op-1}
use Rattle.hlfir_ops.specs.Opened.{trees_open}
use Rattle.rule_tests.specs.Orders.{ops_of}
use Rattle.rule_tests.proofs.Appended.{map_append, next}
use Rattle.storage_owner.specs.Groups.{own_group, op_groups, regions_groups, ops_groups, groups_of, groups_in}

pub ruleset push_rules = (map_append)

ops_groups-list : (ops : List Op) → ops_groups (hidden-the_row-Op-1 ops) ≡ groups_of ops
unfolding trees_open
ops_groups-list [] = refl
ops_groups-list (op ∷ ops) = ap (λ l. op_groups op ++ l) (ops_groups-list ops)

regions_front : (region : Region) (regions : List Region) → regions_groups (hidden-the_row-Region-0 (roll-Region (out-Region region) ∷ regions)) ≡ ops_groups (hidden-the_row-Op-1 (out-Region region).ops) ++ regions_groups (hidden-the_row-Region-0 regions)
unfolding trees_open
regions_front region regions = refl

regions_groups-list : (regions : List Region) → regions_groups (hidden-the_row-Region-0 regions) ≡ groups_in regions
unfolding trees_open
regions_groups-list [] = refl
regions_groups-list (region ∷ regions) =
    ap (λ r. regions_groups (hidden-the_row-Region-0 (r ∷ regions))) (sym (roll-out-Region region)) ∙ (regions_front region regions ∙
    (ap (λ l. l ++ regions_groups (hidden-the_row-Region-0 regions)) (ops_groups-list (out-Region region).ops) ∙ ap (λ l. groups_of (out-Region region).ops ++ l) (regions_groups-list regions)))

op_front : (op : Op) → op_groups (roll-Op (out-Op op)) ≡ own_group (out-Op op).what (roll-Op (out-Op op)) (regions_groups (hidden-the_row-Region-0 (out-Op op).regions))
unfolding trees_open
op_front op = refl

pub op_groups-parts : (op : Op) → op_groups op ≡ own_group (out-Op op).what op (groups_in (out-Op op).regions)
op_groups-parts op =
    ap op_groups (sym (roll-out-Op op)) ∙ (op_front op ∙ (ap (λ o. own_group (out-Op op).what o (regions_groups (hidden-the_row-Region-0 (out-Op op).regions))) (roll-out-Op op)
    ∙ ap (λ l. own_group (out-Op op).what op l) (regions_groups-list (out-Op op).regions)))

-- a loop that appends the groups of each op
pub next_op : (ops : List Op) (i : ℕ) (op : Op) (old now : List (Bor Op)) → i < length ops → op ≡ get_or ops i op →
    ops_of now ≡ ops_of old ++ own_group (out-Op op).what op (groups_in (out-Op op).regions) → ops_of old ++ groups_of (drop i ops) ≡ ops_of now ++ groups_of (drop (i + 1) ops)
next_op ops i op old now within is more = next groups_of op_groups (λ _ _. refl) ops i op (ops_of old) (ops_of now) within is (more ∙ ap (λ l. ops_of old ++ l) (sym (op_groups-parts op)))

-- a loop that appends those of each region
pub next_region : (regions : List Region) (i : ℕ) (region : Region) (old now : List (Bor Op)) → i < length regions → region ≡ get_or regions i region →
    ops_of now ≡ ops_of old ++ groups_of (out-Region region).ops → ops_of old ++ groups_in (drop i regions) ≡ ops_of now ++ groups_in (drop (i + 1) regions)
next_region regions i region old now within is more = next groups_in (λ r. groups_of (out-Region r).ops) (λ _ _. refl) regions i region (ops_of old) (ops_of now) within is more
