use Rattle.phase_ops.proofs.Strands.{unit_frame}
use Rattle.phase_ops.proofs.laws.frame_law.Goals as goal

pub returns : goal.returns
returns c = unit_frame
