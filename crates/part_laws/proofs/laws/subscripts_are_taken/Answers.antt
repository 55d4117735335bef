use Rattle.part_laws.proofs.Kept.{does-section}
use Rattle.part_laws.proofs.Taken.{settled-taken, does-variable_taken}
use Rattle.part_laws.proofs.laws.subscripts_are_taken.Goals as goal

pub returns : goal.returns
returns c = record { settled = settled-taken; variables = does-variable_taken; sections = does-section }
