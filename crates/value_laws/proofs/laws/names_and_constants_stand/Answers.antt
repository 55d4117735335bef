use Rattle.value_laws.proofs.Names.{does-variable}
use Rattle.value_laws.proofs.Scalars.{does-constant}
use Rattle.value_laws.proofs.laws.names_and_constants_stand.Goals as goal

pub returns-clause-constants : goal.returns-clause-constants
returns-clause-constants c = does-constant

pub returns-clause-variables : goal.returns-clause-variables
returns-clause-variables c = does-variable
