use Rattle.std.proofs.Common.{subst}
use Rattle.phase_ops.specs.Course.{Course}
use Rattle.team_core.specs.Cores.{state_of, units_course, IsNext}
use Rattle.team_core.specs.Units.{IsEntered}
use Rattle.team_core.proofs.Cores.{next_step}
use Rattle.team_core.proofs.team.Core.next.Goals as goal

pub returns : goal.returns
returns c =
    let k = c.args.self.now in
    subst (λ (co : Course). IsNext co (state_of k) c.args.member c.next.result) c.requires.core.course_is
    (next_step (units_course c.args.phases.now k.machine.work) k.machine.state k.machine.pending k.machine.work.phase (IsEntered k.machine.work c.args.phases.now) c.requires.core.holds c.args.member c.requires.member c.next.result c.next.ensures)
