use Rattle.std.proofs.Common.{arith}
use Rattle.rule_tests.proofs.Used.{adds_none, next_operand}
use Rattle.rule_tests.proofs.table.add_operands.Goals as goal

pub each-init : goal.each-init
each-init c = adds_none c.args.uses.now

pub each-preserved : goal.each-preserved
each-preserved c = next_operand c.args.operands.now c.each.v-index c.args.uses.now c.each.uses c.add_use.new.uses c.each-test.true c.each.invariant c.add_use.ensures
