use Rattle.std.proofs.Common.{◌∙◌}
use Rattle.storage_owner.proofs.Grouping.{next_op}
use Rattle.storage_owner.proofs.groups.+grouping.Goals as goal

pub add_groups-each-preserved : goal.add_groups-each-preserved
add_groups-each-preserved t c = c.each.invariant ∙ next_op c.args.ops.now c.each.op-index c.op-item.result c.each.groups.items c.add_own.new.groups.items c.each-test.true c.op-item.is c.in_ok-add_own.ensures
