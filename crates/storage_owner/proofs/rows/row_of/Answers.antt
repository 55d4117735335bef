use Rattle.std.proofs.Common.{◌∙◌}
use Rattle.storage_owner.proofs.Ranged.{next_range, next_cell}
use Rattle.storage_owner.proofs.rows.row_of.Goals as goal

pub each-preserved : goal.each-preserved
each-preserved c = record {
  ranges = c.each.invariant.ranges ∙ next_range c.args.sizes.now c.each.cells-index c.each.row.next c.add_range.new.row.next c.each.row.ranges c.add_range.new.row.ranges c.each-test.true c.in_ok-add_range.ensures.ranges c.in_ok-add_range.ensures.next;
  next = c.each.invariant.next ∙ next_cell c.args.sizes.now c.each.cells-index c.each.row.next c.add_range.new.row.next c.each-test.true c.in_ok-add_range.ensures.next;
}
