use Rattle.part_laws.proofs.Lefts.{left-parts-reach, left-names-reach, left-declares-reach}
use Rattle.part_laws.proofs.laws.left_regions_reach.Goals as goal

pub returns-clause-parts : goal.returns-clause-parts
returns-clause-parts c = left-parts-reach

pub returns-clause-names : goal.returns-clause-names
returns-clause-names c = left-names-reach

pub returns-clause-declares : goal.returns-clause-declares
returns-clause-declares c = left-declares-reach
