use Rattle.part_laws.proofs.References.{does-boxed}
use Rattle.part_laws.proofs.Parts.{does-array_subscripts}
use Rattle.part_laws.proofs.laws.subscripts_select.Goals as goal

pub returns-clause-references : goal.returns-clause-references
returns-clause-references c = does-boxed

pub returns-clause-subscripts : goal.returns-clause-subscripts
returns-clause-subscripts c = does-array_subscripts
