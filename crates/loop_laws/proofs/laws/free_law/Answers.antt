use Rattle.loop_laws.proofs.Units.{free_loop}
use Rattle.loop_laws.proofs.laws.free_law.Goals as goal

pub returns : goal.returns
returns c = free_loop
