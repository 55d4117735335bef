use Rattle.limit_laws.proofs.Lowered.{every_op_keeps_the_limits}
use Rattle.limit_laws.proofs.laws.every_lowered_op_keeps_the_limits.Goals as goal

pub returns : goal.returns
returns c = every_op_keeps_the_limits
