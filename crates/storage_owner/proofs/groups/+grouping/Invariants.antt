use Rattle.std.proofs.Common.{◌≡◌, ◌++◌, drop}
use Rattle.rule_tests.specs.Orders.{ops_of}
use Rattle.storage_owner.specs.Groups.{groups_of, groups_in}
use Rattle.storage_owner.proofs.groups.+grouping.Given as goal

abbrev pub invariant-add_groups-each : goal.invariant-add_groups-each
invariant-add_groups-each l = ops_of l.initial.groups.items ++ groups_of l.ops ≡ ops_of l.groups.items ++ groups_of (drop l.op-index l.ops)

abbrev pub invariant-add_inside-each : goal.invariant-add_inside-each
invariant-add_inside-each l = ops_of l.initial.groups.items ++ groups_in l.regions ≡ ops_of l.groups.items ++ groups_in (drop l.region-index l.regions)
