use Rattle.std.proofs.Common.{◌∙◌}
use Rattle.assign_schedule.specs.Seen.{items_seen}
use Rattle.assign_schedule.proofs.Walked.{op_walked, op_placed, op_numbered, next_op, next_place, next_number, next_region, next_region_place, next_region_number}
use Rattle.assign_schedule.proofs.walk.+walking.Goals as goal

pub walk_op-returns-clause-items : goal.walk_op-returns-clause-items
walk_op-returns-clause-items t c = op_walked c.args.around c.in_ok-inner.inner c.args.walk.place c.args.walk.number c.args.op.now c.as_slice.result.now (items_seen c.args.items.now.items)
    (items_seen c.add_own.new.items.items) (items_seen c.walk_regions.new.items.items) c.in_ok-walk.walk.place c.in_ok-walk.walk.number c.in_ok-inner.ensures c.as_slice.ensures c.in_ok-add_own.ensures
    c.in_ok-walk.ensures.0 c.in_ok-walk.ensures.1 c.in_ok-next.ensures.items

pub walk_op-returns-clause-next : goal.walk_op-returns-clause-next
walk_op-returns-clause-next t c = (
  op_placed c.args.walk.place c.args.op.now c.as_slice.result.now c.in_ok-walk.walk.place c.in_ok-next.next.place c.as_slice.ensures c.in_ok-walk.ensures.0 c.in_ok-next.ensures.next.0,
  op_numbered c.args.walk.number c.args.op.now c.as_slice.result.now c.in_ok-walk.walk.number c.in_ok-next.next.number c.as_slice.ensures c.in_ok-walk.ensures.1 c.in_ok-next.ensures.next.1,
)

pub walk_ops-each-preserved : goal.walk_ops-each-preserved
walk_ops-each-preserved t c =
    let now = c.each.next in
    let more = c.in_ok-next.next in record {
      items = c.each.invariant.items ∙ next_op c.args.around c.args.ops.now c.each.op-index c.op-item.result now.place now.number more.place more.number (items_seen c.each.items.items) (items_seen c.walk_op.new.items.items) c.each-test.true
          c.op-item.is c.in_ok-next.ensures.items c.in_ok-next.ensures.next.0 c.in_ok-next.ensures.next.1;
      place = next_place c.args.ops.now c.each.op-index c.op-item.result now.place more.place _ c.each-test.true c.op-item.is c.in_ok-next.ensures.next.0 c.each.invariant.place;
      number = next_number c.args.ops.now c.each.op-index c.op-item.result now.number more.number _ c.each-test.true c.op-item.is c.in_ok-next.ensures.next.1 c.each.invariant.number;
    }

pub walk_regions-each-preserved : goal.walk_regions-each-preserved
walk_regions-each-preserved t c =
    let now = c.each.next in
    let more = c.in_ok-next.next in record {
      items = c.each.invariant.items ∙ next_region c.args.around c.args.what.now c.args.regions.now c.each.k c.index-regions-k.result now.place now.number more.place more.number (items_seen c.each.items.items)
          (items_seen c.walk_region.new.items.items) c.each-test.true c.index-regions-k.is c.in_ok-next.ensures.items c.in_ok-next.ensures.next.0 c.in_ok-next.ensures.next.1;
      place = next_region_place c.args.regions.now c.each.k c.index-regions-k.result now.place more.place _ c.each-test.true c.index-regions-k.is c.in_ok-next.ensures.next.0 c.each.invariant.place;
      number = next_region_number c.args.what.now c.args.regions.now c.each.k c.index-regions-k.result now.number more.number _ c.each-test.true c.index-regions-k.is c.in_ok-next.ensures.next.1 c.each.invariant.number;
    }
