use Rattle.std.proofs.Common.{arith}
use Rattle.term_eval.proofs.Checks.{checked-done}
use Rattle.term_eval.proofs.designators.check_picks.Goals as goal

pub returns : goal.returns
returns c = checked-done c.args.dims.now c.args.picks.now c.loop-i.i (omega arith) c.loop-i.invariant
