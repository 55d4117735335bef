use Rattle.phase_ops.proofs.Courses.{units_free}
use Rattle.phase_ops.proofs.laws.race_law.Goals as goal

pub returns : goal.returns
returns c = units_free
