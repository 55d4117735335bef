use Rattle.std.proofs.Common.{arith}
use Rattle.rule_tests.proofs.Used.{adds_none, next_use}
use Rattle.rule_tests.proofs.table.add_uses.Goals as goal

pub each-init : goal.each-init
each-init c = adds_none c.args.uses.now

pub each-preserved : goal.each-preserved
each-preserved c = next_use c.args.order.now c.each.op-index c.op-item.result c.as_slice.result.now c.args.uses.now c.each.uses c.add_operands.new.uses c.each-test.true c.op-item.is c.as_slice.ensures c.each.invariant c.add_operands.ensures
