use Rattle.lower_assign.specs.Statements.{left}
use Rattle.lower_assign.proofs.Lefts.{numbered}
use Rattle.lower_assign.proofs.lowering.lower_left.Goals as goal

pub returns : goal.returns
returns c = numbered (left c.args.e.now) c.in_ok-names.ensures c.in_ok-x.ensures
