use Rattle.std.proofs.Common.{refl}
use Rattle.act_lower.proofs.Compute.{everything}
use Rattle.act_lower.proofs.examples.copy_example.Goals as goal

pub returns-clause-few : goal.returns-clause-few
unfolding everything
returns-clause-few c = refl

pub returns-clause-third : goal.returns-clause-third
unfolding everything
returns-clause-third c = refl
