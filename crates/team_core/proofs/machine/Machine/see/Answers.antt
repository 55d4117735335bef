use Rattle.std.proofs.Common.{ℕ, eqb, ap, refl, ◌∙◌}
use Rattle.team_core.specs.declared.member.MemberState.TheVariants.{Arrived}
use Rattle.phase_ops.specs.Course.{Course}
use Rattle.team_core.specs.declared.state.CoreState.{CoreState}
use Rattle.team_core.specs.declared.state.Member.{Member}
use Rattle.team_core.specs.Core.{member_of, member, counts_at, sees, sees_of}
use Rattle.team_core.proofs.Machines.{placed_arrived, leaves}
use Rattle.team_core.proofs.Keeping.{keeps_see}
use Rattle.team_core.proofs.machine.Machine.see.Goals as goal

pub see-requires : goal.see-requires
see-requires g c = record { placed = placed_arrived _ _ _ _ _ _ c.requires.holds c.args.member c.requires.there c.requires.arrived }

pub look_ahead-requires-clause-holds : goal.look_ahead-requires-clause-holds
look_ahead-requires-clause-holds g c =
    let course : Course = g.W.UnitWork.course c.args.self.now.work c.args.plan.now in let k : CoreState = c.args.self.now.state in
    let m : ℕ = c.args.member in let x : Member = member_of k m in
    leaves course k _ _ _ c.requires.holds m c.requires.there (sees course k m x) c.see.new.state (member x.phase Arrived (eqb (counts_at k x.phase).numbers.arrived course.team)) (c.see.ensures ∙ ap (λ (n : ℕ). sees_of n k m x) c.requires.sizes) refl
    (λ at. keeps_see course k c.requires.holds.sound m x at c.requires.arrived)

pub returns-clause-state : goal.returns-clause-state
returns-clause-state g c = c.look_ahead.ensures.state ∙ (c.see.ensures ∙ ap (λ (n : ℕ). sees_of n c.args.self.now.state c.args.member (member_of c.args.self.now.state c.args.member)) c.requires.sizes)
