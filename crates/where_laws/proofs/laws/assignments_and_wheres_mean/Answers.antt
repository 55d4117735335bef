use Rattle.where_laws.proofs.Means.{means}
use Rattle.where_laws.proofs.laws.assignments_and_wheres_mean.Goals as goal

pub returns : goal.returns
returns c = means
