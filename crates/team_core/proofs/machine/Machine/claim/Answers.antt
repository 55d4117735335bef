use Rattle.std.proofs.Common.{◌≡◌, ℕ, cond, ltb, false, ap, refl, ◌∙◌}
use Rattle.team_core.specs.declared.member.MemberState.TheVariants.{Within, Out}
use Rattle.phase_ops.specs.Course.{Course, work_at}
use Rattle.team_core.specs.declared.state.CoreState.{CoreState}
use Rattle.team_core.specs.declared.state.Counts.{Counts}
use Rattle.team_core.specs.declared.state.Member.{Member}
use Rattle.team_core.specs.Core.{member_of, member, counts_at, claims, claims_of}
use Rattle.team_core.specs.Front.{is_there}
use Rattle.team_core.proofs.Machines.{ready_now, entered_now, placed, claimed_room, leaves}
use Rattle.team_core.proofs.Keeping.{keeps_claim}
use Rattle.team_core.proofs.machine.Machine.claim.Goals as goal

pub units-units-requires : goal.units-units-requires
units-units-requires g c = ready_now _ _ _ _ _ _ c.requires.holds c.args.member c.requires.there (ap is_there c.requires.ready)

pub claim-requires-clause-placed : goal.claim-requires-clause-placed
claim-requires-clause-placed g c = placed _ _ _ _ _ _ c.requires.holds c.args.member c.requires.there (ap is_there c.requires.ready)

pub claim-requires-clause-room : goal.claim-requires-clause-room
claim-requires-clause-room g c = claimed_room _ _ _ _ _ _ c.requires.holds c.args.member c.requires.there c.requires.ready

-- a claim of so many units is one of those of the phase
claims_phase : (course : Course) (k k' : CoreState) (m units entered : ℕ) → k' ≡ claims_of units k m (member_of k m) → units ≡ (work_at course entered).units → entered ≡ (member_of k m).phase → k' ≡ claims course k m (member_of k m)
claims_phase course k k' m units entered a b e = a ∙ ap (λ (n : ℕ). claims_of n k m (member_of k m)) (b ∙ ap (λ (t : ℕ). (work_at course t).units) e)

pub look_ahead-requires-clause-holds : goal.look_ahead-requires-clause-holds
look_ahead-requires-clause-holds g c =
    let course : Course = g.W.UnitWork.course c.args.self.now.work c.args.plan.now in
    let k : CoreState = c.args.self.now.state in
    let m : ℕ = c.args.member in
    let x : Member = member_of k m in
    let h = c.requires.holds in
    let n : Counts = counts_at k x.phase in
    let is = claims_phase course k c.claim.new.state m _ _ c.claim.ensures c.units-units.ensures (entered_now _ _ k _ _ _ h m c.requires.there (ap is_there c.requires.ready)) in
    leaves course k _ _ _ h m c.requires.there (claims course k m x) c.claim.new.state (member x.phase (cond (ltb n.numbers.claimed (work_at course x.phase).units) (Within n.numbers.claimed 0) Out) false) is refl
    (λ at. keeps_claim course k h.sound m x at c.requires.ready)

pub returns-clause-state : goal.returns-clause-state
returns-clause-state g c = c.look_ahead.ensures.state ∙ claims_phase (g.W.UnitWork.course c.args.self.now.work c.args.plan.now) c.args.self.now.state c.claim.new.state c.args.member _ _ c.claim.ensures c.units-units.ensures
    (entered_now _ _ _ _ _ _ c.requires.holds c.args.member c.requires.there (ap is_there c.requires.ready))
