use Rattle.std.proofs.Common.{ℕ, List, ap, sym, subst, get_or}
use Rattle.team_core.specs.declared.state.CoreState.{CoreState}
use Rattle.team_core.specs.declared.state.Member.{Member}
use Rattle.team_core.specs.Core.{nobody}
use Rattle.team_core.specs.Front.{is_there}
use Rattle.team_core.specs.Machines.{Passed}
use Rattle.team_core.proofs.Machines.{placed, arrived_room, passed}
use Rattle.team_core.proofs.machine.Machine.arrive.Goals as goal

pub arrive-requires-clause-placed : goal.arrive-requires-clause-placed
arrive-requires-clause-placed g c = placed _ _ _ _ _ _ c.requires.holds c.args.member c.requires.there (ap is_there c.requires.out)

pub arrive-requires-clause-room : goal.arrive-requires-clause-room
arrive-requires-clause-room g c = arrived_room _ _ _ _ _ _ c.requires.holds c.args.member c.requires.there

pub go_on-requires-clause-passed : goal.go_on-requires-clause-passed
go_on-requires-clause-passed g c =
    let t = ap (λ (l : List Member). (get_or l c.args.member nobody).phase) c.as_slice.ensures in
    subst (λ (z : CoreState × ℕ). Passed c.args.member (g.W.UnitWork.course c.args.self.now.work c.args.plan.now) z.0 c.args.self.now.pending (g.W.UnitWork.entered c.args.self.now.work) (g.W.UnitWork.ready c.args.self.now.work c.args.plan.now) z.1)
    (λ i. (sym c.arrive.ensures i, sym t i)) (passed _ _ _ _ _ c.requires.holds c.args.member c.requires.there c.requires.out)
