use Rattle.value_laws.proofs.Folded.{does-folded, settles-folded}
use Rattle.value_laws.proofs.laws.constant_expressions_stand.Goals as goal

pub returns-clause-folded : goal.returns-clause-folded
returns-clause-folded c = does-folded

pub returns-clause-settled : goal.returns-clause-settled
returns-clause-settled c = settles-folded
