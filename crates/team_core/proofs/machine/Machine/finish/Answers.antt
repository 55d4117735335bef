use Rattle.std.proofs.Common.{ℕ, false, ap, refl}
use Rattle.team_core.specs.declared.member.MemberState.TheVariants.{Ready}
use Rattle.team_core.specs.declared.state.CoreState.{CoreState}
use Rattle.team_core.specs.declared.state.Member.{Member}
use Rattle.team_core.specs.Core.{member_of, member, finishes}
use Rattle.team_core.specs.Front.{is_there}
use Rattle.team_core.proofs.Machines.{placed, finished_room, whole_is, leaves}
use Rattle.team_core.proofs.Keeping.{keeps_finish}
use Rattle.team_core.proofs.machine.Machine.finish.Goals as goal

pub finish-requires-clause-placed : goal.finish-requires-clause-placed
finish-requires-clause-placed g c = placed _ _ _ _ _ _ c.requires.holds c.args.member c.requires.there (ap is_there c.requires.within.2)

pub finish-requires-clause-room : goal.finish-requires-clause-room
finish-requires-clause-room g c = finished_room _ _ _ _ _ _ c.requires.holds c.args.member c.requires.there c.requires.within.0 c.requires.within.1 c.requires.within.2

pub look_ahead-requires-clause-holds : goal.look_ahead-requires-clause-holds
look_ahead-requires-clause-holds g c =
    let k : CoreState = c.args.self.now.state in let m : ℕ = c.args.member in let h = c.requires.holds in let w = c.requires.within in
    leaves _ k _ _ _ h m c.requires.there (finishes k m (member_of k m)) c.finish.new.state (member (member_of k m).phase Ready false) c.finish.ensures refl
    (λ at. keeps_finish _ k h.sound m (member_of k m) at w.0 w.1 w.2 (whole_is _ k _ _ _ h m c.requires.there w.0 w.1 w.2 c.requires.next))
