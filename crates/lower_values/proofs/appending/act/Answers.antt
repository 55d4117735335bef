use Rattle.lower_values.proofs.Appended.{appends-acting}
use Rattle.lower_values.proofs.appending.act.Goals as goal

pub returns : goal.returns
returns c = λ names. appends-acting c.args.what c.args.operands c.line.ensures c.new.ensures c.in_ok-push.ensures.1
