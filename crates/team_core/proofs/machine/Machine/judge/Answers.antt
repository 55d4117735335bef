use Rattle.std.proofs.Common.{ℕ, ap, refl, ◌∙◌}
use Rattle.phase_ops.specs.Course.{Course}
use Rattle.team_core.specs.declared.state.CoreState.{CoreState}
use Rattle.team_core.specs.Core.{member_of, judges, judges_of, judged}
use Rattle.team_core.proofs.Machines.{placed_arrived, phase_room, leaves}
use Rattle.team_core.proofs.Keeping.{keeps_judge}
use Rattle.team_core.proofs.machine.Machine.judge.Goals as goal

pub judge-requires-clause-placed : goal.judge-requires-clause-placed
judge-requires-clause-placed g c = placed_arrived _ _ _ _ _ _ c.requires.holds c.args.member c.requires.there c.requires.arrived

pub judge-requires-clause-room : goal.judge-requires-clause-room
judge-requires-clause-room g c = phase_room _ _ _ _ _ _ c.requires.holds c.args.member c.requires.there c.requires.arrived

pub look_ahead-requires-clause-holds : goal.look_ahead-requires-clause-holds
look_ahead-requires-clause-holds g c =
    let course : Course = g.W.UnitWork.course c.args.self.now.work c.args.plan.now in let k : CoreState = c.args.self.now.state in
    let m : ℕ = c.args.member in let h = c.requires.holds in
    leaves course k _ _ _ h m c.requires.there (judges course k m (member_of k m)) c.judge.new.state (judged course.count k (member_of k m)) (c.judge.ensures ∙ ap (λ (n : ℕ). judges_of n k m (member_of k m)) c.requires.sizes) refl
    (λ at. keeps_judge course k h.sound m (member_of k m) at c.requires.arrived c.requires.full)

pub returns-clause-state : goal.returns-clause-state
returns-clause-state g c = c.look_ahead.ensures.state ∙ (c.judge.ensures ∙ ap (λ (n : ℕ). judges_of n c.args.self.now.state c.args.member (member_of c.args.self.now.state c.args.member)) c.requires.sizes)
