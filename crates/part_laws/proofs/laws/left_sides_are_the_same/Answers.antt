use Rattle.part_laws.proofs.Sections.{part-shapes}
use Rattle.part_laws.proofs.Selected.{same-targets}
use Rattle.part_laws.proofs.Targets.{whole-targets}
use Rattle.part_laws.proofs.laws.left_sides_are_the_same.Goals as goal

pub returns : goal.returns
returns c = record { shapes = part-shapes; targets = same-targets; whole = whole-targets }
