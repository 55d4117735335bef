use Rattle.step_eval.proofs.Headers.{header_axes}
use Rattle.step_eval.proofs.forall.header_at.Goals as goal

pub returns-in-Ok-clause-axes : goal.returns-in-Ok-clause-axes
returns-in-Ok-clause-axes c = header_axes c.args.world.now c.args.indexes.now c.in-Ok.triplets c.in-Ok.ensures c.requires.world c.requires.small
