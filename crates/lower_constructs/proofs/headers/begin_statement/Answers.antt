use Rattle.lower_constructs.proofs.Filling.{begins}
use Rattle.lower_constructs.proofs.headers.begin_statement.Goals as goal

pub returns : goal.returns
returns c = λ names. begins c.args.what c.args.line c.args.operands c.in_ok-begin.ensures.begun
