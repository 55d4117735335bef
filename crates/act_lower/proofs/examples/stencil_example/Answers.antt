use Rattle.std.proofs.Common.{refl}
use Rattle.act_lower.proofs.Compute.{everything}
use Rattle.act_lower.proofs.examples.stencil_example.Goals as goal

pub returns-clause-few : goal.returns-clause-few
unfolding everything
returns-clause-few c = refl

pub returns-clause-last : goal.returns-clause-last
unfolding everything
returns-clause-last c = refl

pub returns-clause-fault : goal.returns-clause-fault
unfolding everything
returns-clause-fault c = refl
