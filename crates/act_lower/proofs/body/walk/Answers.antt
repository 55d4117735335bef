use Rattle.std.proofs.Common.{sym, ◌∙◌}
use Rattle.act_lower.proofs.Pushing.{walked_at}
use Rattle.act_lower.proofs.body.walk.Goals as goal

pub each-preserved : goal.each-preserved
each-preserved c = walked_at c.args.place c.args.first c.args.table.now.items c.args.body.now c.args.ops.now c.each.n c.each.table.items c.each.op-index c.each.ops c.op-item.result c.in_ok-seat.seat c.as_slice-os.result.now c.as_slice-in-each.result.now
    c.in-Some.next c.push.new.self.items c.add_op.new.ops
    c.op-item.is c.each-test.true (sym c.ends.ensures ∙ c.if-ends.false) c.as_slice-os.ensures c.as_slice-in-each.ensures.value
    c.in_ok-seat.ensures.ops c.in_ok-seat.ensures.seat c.in_ok-push.ensures.items c.in-Some.ensures.1 c.each.invariant
