use Rattle.std.proofs.Common.{arith}
use Rattle.rule_tests.specs.Seen.{seen}
use Rattle.rule_limits.proofs.Capped.{sum_done}
use Rattle.rule_limits.proofs.tally.sum_of.Goals as goal

pub returns : goal.returns
returns c = sum_done (seen c.args.table.now) c.args.ops.now c.each.op-index c.each.sum (omega arith) c.each.invariant
