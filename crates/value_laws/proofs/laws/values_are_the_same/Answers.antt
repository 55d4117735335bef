use Rattle.value_laws.proofs.Evaluated.{values-same, whole-same}
use Rattle.value_laws.proofs.laws.values_are_the_same.Goals as goal

pub returns-clause-values : goal.returns-clause-values
returns-clause-values c = values-same

pub returns-clause-whole : goal.returns-clause-whole
returns-clause-whole c = whole-same
