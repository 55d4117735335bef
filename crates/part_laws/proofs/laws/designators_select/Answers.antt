use Rattle.part_laws.proofs.Designators.{does-designated}
use Rattle.part_laws.proofs.laws.designators_select.Goals as goal

pub returns : goal.returns
returns c = does-designated
