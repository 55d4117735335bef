use Rattle.part_laws.proofs.Sections.{does-loaded, does-designator}
use Rattle.part_laws.proofs.laws.parts_stand.Goals as goal

pub returns-clause-parts : goal.returns-clause-parts
returns-clause-parts c = does-loaded

pub returns-clause-designators : goal.returns-clause-designators
returns-clause-designators c = does-designator
