use Rattle.small_laws.proofs.Accepted.{accepted_small, accepted_declarations}
use Rattle.small_laws.proofs.laws.every_accepted_program_is_small.Goals as goal

pub returns-clause-statements : goal.returns-clause-statements
returns-clause-statements c = accepted_small

pub returns-clause-declarations : goal.returns-clause-declarations
returns-clause-declarations c = accepted_declarations
