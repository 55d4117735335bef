use Rattle.mask_laws.proofs.Controls.{control_gates}
use Rattle.mask_laws.proofs.laws.control_gate_law.Goals as goal

pub returns : goal.returns
returns x = control_gates
