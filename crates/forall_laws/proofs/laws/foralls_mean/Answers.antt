use Rattle.forall_laws.proofs.Means as means
use Rattle.forall_laws.proofs.laws.foralls_mean.Goals as goal

pub returns : goal.returns
returns c = means.foralls_mean
