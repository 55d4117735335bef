use Rattle.std.proofs.Common.{refl}
use Rattle.team_core.specs.declared.member.StepKind.TheVariants.{Least}
use Rattle.team_core.proofs.Runs.{steps}
use Rattle.team_core.proofs.laws.least_law.Goals as goal

pub returns : goal.returns
returns g = λ c k k' m x safe sound at h. steps c safe k sound m x at Least x.state refl k' h
