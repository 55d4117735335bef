use Rattle.mask_laws.proofs.Masks.{gates}
use Rattle.mask_laws.proofs.laws.gate_law.Goals as goal

pub returns : goal.returns
returns x = gates
