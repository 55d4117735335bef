use Rattle.part_laws.proofs.Yielded.{regions-yield}
use Rattle.part_laws.proofs.laws.regions_yield.Goals as goal

pub returns : goal.returns
returns c = regions-yield
