use Rattle.kind_laws.proofs.ExpressionsFound.{values_are_found}
use Rattle.kind_laws.proofs.Sides.{lefts_are_found}
use Rattle.kind_laws.proofs.laws.lowered_expressions_are_found.Goals as goal

pub returns-clause-values : goal.returns-clause-values
returns-clause-values c = values_are_found

pub returns-clause-lefts : goal.returns-clause-lefts
returns-clause-lefts c = lefts_are_found
