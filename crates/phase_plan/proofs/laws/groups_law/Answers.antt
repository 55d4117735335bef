use Rattle.phase_plan.proofs.Begins.{begins_of-ops}
use Rattle.phase_plan.proofs.laws.groups_law.Goals as goal

pub returns : goal.returns
returns c = λ m. begins_of-ops 0 0 m.ops
