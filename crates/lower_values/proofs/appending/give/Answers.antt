use Rattle.lower_values.proofs.Appended.{appends-giving}
use Rattle.lower_values.proofs.appending.give.Goals as goal

pub returns : goal.returns
returns c = λ names. appends-giving c.args.what c.args.operands c.line.ensures c.new.ensures c.in_ok-value.ensures.0 c.in_ok-value.ensures.1
