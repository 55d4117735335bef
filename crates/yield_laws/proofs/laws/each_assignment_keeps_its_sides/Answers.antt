use Rattle.yield_laws.proofs.Modules.{sides_agree, reallocs_are_of_wholes}
use Rattle.yield_laws.proofs.laws.each_assignment_keeps_its_sides.Goals as goal

pub returns-clause-sides : goal.returns-clause-sides
returns-clause-sides c = sides_agree

pub returns-clause-reallocs : goal.returns-clause-reallocs
returns-clause-reallocs c = reallocs_are_of_wholes
