use Rattle.slow_eval.proofs.Forms.{stride_of}
use Rattle.slow_eval.proofs.statements.loop_header.Goals as goal

pub returns-in-Ok-clause-stride : goal.returns-in-Ok-clause-stride
returns-in-Ok-clause-stride c = stride_of c.args.world.now c.args.l.now c.args.u.now c.args.s.now c.in-Ok.triplet c.in-Ok.ensures
