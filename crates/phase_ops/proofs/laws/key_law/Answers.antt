use Rattle.phase_ops.proofs.Keys.{key_holds}
use Rattle.phase_ops.proofs.laws.key_law.Goals as goal

pub returns : goal.returns
returns c = key_holds
