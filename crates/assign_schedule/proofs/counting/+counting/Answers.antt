use Rattle.std.proofs.Common.{◌∙◌, ◌+◌, ap}
use Rattle.assign_schedule.proofs.Counted.{next_op, next_region}
use Rattle.assign_schedule.proofs.counting.+counting.Goals as goal

pub count_ops-each-preserved : goal.count_ops-each-preserved
count_ops-each-preserved t c = next_op c.args.ops.now c.each.op-index c.op-item.result c.as_slice.result.now c.each.count c.in_ok-inside.inside c.in_ok-count-2.count _ c.each-test.true c.op-item.is c.as_slice.ensures
    c.in_ok-inside.ensures (c.in_ok-count-2.ensures ∙ ap (λ n. c.in_ok-inside.inside + n) c.in_ok-count.ensures) c.each.invariant

pub count_regions-each-preserved : goal.count_regions-each-preserved
count_regions-each-preserved t c = next_region c.args.regions.now c.each.region-index c.region-item.result c.as_slice.result.now c.each.count c.in_ok-inside.inside c.in_ok-count.count _ c.each-test.true c.region-item.is
    c.as_slice.ensures c.in_ok-inside.ensures c.in_ok-count.ensures c.each.invariant
