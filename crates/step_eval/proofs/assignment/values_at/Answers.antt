use Rattle.step_eval.proofs.KeptLimits.{values_integers}
use Rattle.step_eval.proofs.assignment.values_at.Goals as goal

pub returns-in-Ok-clause-integers : goal.returns-in-Ok-clause-integers
returns-in-Ok-clause-integers c = values_integers c.args.t.now c.args.places.now c.in-Ok.values c.in-Ok.ensures.value c.requires.small
