use Rattle.std.proofs.Common.{refl}
use Rattle.act_lower.proofs.Compute.{everything}
use Rattle.act_lower.proofs.examples.backward_example.Goals as goal

pub returns-clause-first : goal.returns-clause-first
unfolding everything
returns-clause-first c = refl

pub returns-clause-second : goal.returns-clause-second
unfolding everything
returns-clause-second c = refl
