use Rattle.std.proofs.Common.{◌≡◌, length, ap, sym, refl, ◌∙◌, subst, arith}
use Rattle.phase_ops.specs.Course.{Course}
use Rattle.team_core.specs.declared.state.CoreState.{CoreState}
use Rattle.team_core.specs.Core.{start, start_of}
use Rattle.team_core.specs.Machines.{HoldsFor}
use Rattle.team_core.proofs.Machines.{begins, rebase}
use Rattle.team_core.proofs.machine.Machine.start.Goals as goal
use Rattle.team_core.proofs.machine.Machine.start.Goals.{then-count-gt0, else-count-gt0}

pub returns-clause-holds : goal.returns-clause-holds
returns-clause-holds g c =
    let course : Course = g.W.UnitWork.course c.args.work c.args.plan.now in
    let is : start_of c.args.opening c.args.team c.args.count ≡ start course = λ i. start_of (c.requires.opening i) (c.requires.sizes.0 i) (c.requires.sizes.1 i) in
    let long = ap length c.from_vec-pending.ensures ∙ (sym c.in_ok-vec.field-0.ok.0 ∙ (c.in_ok-vec.ensures.len ∙ c.requires.sizes.0)) in
    let k : CoreState = c.in_ok-state.state in
    let begun : k ≡ start course = c.in_ok-state.ensures ∙ is in
    let p = c.from_vec-pending.result in
    elim c.if-count-gt0.branch [
      | then-count-gt0 w ↦
          let work = w.enter.new.self in
          subst (λ (z : g.row.W.Denot). HoldsFor (λ m. Unit {0}) (g.W.UnitWork.course z c.args.plan.now) k p (g.W.UnitWork.entered z) (g.W.UnitWork.ready z c.args.plan.now)) (sym w.work-is)
          (rebase (λ m. Unit {0}) course (g.W.UnitWork.course work c.args.plan.now) k k p p (g.W.UnitWork.entered work) (g.W.UnitWork.entered work) (g.W.UnitWork.ready work c.args.plan.now) (g.W.UnitWork.ready work c.args.plan.now)
          w.enter.ensures.course refl refl refl (λ z. z)
          (begins course k p (g.W.UnitWork.entered work) (g.W.UnitWork.ready work c.args.plan.now) c.requires.can begun long (λ l. (w.enter.ensures.entered, w.enter.ensures.ready))))
      | else-count-gt0 w ↦
          subst (λ (z : g.row.W.Denot). HoldsFor (λ m. Unit {0}) (g.W.UnitWork.course z c.args.plan.now) k p (g.W.UnitWork.entered z) (g.W.UnitWork.ready z c.args.plan.now)) (sym w.work-is)
          (begins course k p (g.W.UnitWork.entered c.args.work) (g.W.UnitWork.ready c.args.work c.args.plan.now) c.requires.can begun long (λ l. let n = c.requires.sizes.1 in let z = w.if-count-gt0 in absurd (omega (arith, l, n, z))))
    ]
