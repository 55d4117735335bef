use Rattle.std.proofs.Common.{refl}
use Rattle.team_core.specs.declared.member.StepKind.TheVariants.{Arrive}
use Rattle.team_core.proofs.Runs.{steps}
use Rattle.team_core.proofs.laws.arrive_law.Goals as goal

pub returns : goal.returns
returns g = λ c k k' m x safe sound at h. steps c safe k sound m x at Arrive x.state refl k' h
