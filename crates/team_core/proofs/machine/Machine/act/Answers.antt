use Rattle.std.proofs.Common.{ℕ, suc, false, ap, refl}
use Rattle.team_core.specs.declared.member.MemberState.TheVariants.{Within}
use Rattle.team_core.specs.declared.state.CoreState.{CoreState}
use Rattle.team_core.specs.declared.state.Member.{Member}
use Rattle.team_core.specs.Core.{member_of, member, acts}
use Rattle.team_core.specs.Front.{is_there}
use Rattle.team_core.proofs.Machines.{placed, done_room, next_is, leaves}
use Rattle.team_core.proofs.Keeping.{keeps_act}
use Rattle.team_core.proofs.machine.Machine.act.Goals as goal

pub act-requires-clause-placed : goal.act-requires-clause-placed
act-requires-clause-placed g c = placed _ _ _ _ _ _ c.requires.holds c.args.member c.requires.there (ap is_there c.requires.within)

pub act-requires-clause-room : goal.act-requires-clause-room
act-requires-clause-room g c = done_room _ _ _ _ _ _ c.requires.holds c.args.member c.requires.there c.args.unit c.args.done c.requires.within

pub look_ahead-requires-clause-holds : goal.look_ahead-requires-clause-holds
look_ahead-requires-clause-holds g c =
    let k : CoreState = c.args.self.now.state in
    let m : ℕ = c.args.member in
    let h = c.requires.holds in
    let next = next_is _ k _ _ _ h m c.requires.there c.args.unit c.args.done c.requires.within c.args.effect c.requires.next in
    leaves _ k _ _ _ h m c.requires.there (acts k m (member_of k m) c.args.effect c.args.unit c.args.done) c.act.new.state (member (member_of k m).phase (Within c.args.unit (suc c.args.done)) false) c.act.ensures refl
    (λ at. keeps_act _ k h.sound m (member_of k m) at h.can.safe c.args.unit c.args.done c.args.effect c.requires.within next)
