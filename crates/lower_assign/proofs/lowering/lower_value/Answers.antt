use Rattle.lower_values.specs.Values.{value}
use Rattle.lower_assign.proofs.Lefts.{numbered}
use Rattle.lower_assign.proofs.lowering.lower_value.Goals as goal

pub returns : goal.returns
returns c = numbered (value c.args.e.now) c.in_ok-names.ensures c.in_ok-x.ensures
