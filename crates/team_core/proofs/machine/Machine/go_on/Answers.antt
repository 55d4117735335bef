use Rattle.std.proofs.Common.{◌≡◌, ◌≢◌, ℕ, suc, ◌+◌, ◌<◌, List, sym, refl, ◌∙◌, subst, arith}
use Rattle.team_core.specs.Machines.{Enters}
use Rattle.team_core.proofs.Fronts.{untrue}
use Rattle.team_core.proofs.Machines.{rebase, remains, enters, entered_next}
use Rattle.team_core.proofs.machine.Machine.go_on.Goals as goal

pub is_left-requires : goal.is_left-requires
is_left-requires g c = let w = c.requires.passed.sound.sized in let l = c.requires.passed.live in omega (arith, w, l)

pub enter-requires-clause-made : goal.enter-requires-clause-made
enter-requires-clause-made g c = g.met.W.UnitWork.stays_made c.args.self.now.work c.args.plan.now c.requires.passed.entered_is.1

pub enter-requires-clause-enters : goal.enter-requires-clause-enters
enter-requires-clause-enters g c =
    let full = c.is_left.ensures.0 c.if-not-is_left.false in
    let next : suc c.args.phase ≡ c.args.phase + 1 = omega arith in
    let more = (let l = c.if-phase-self.false in let z = c.requires.sizes.1 in let b : suc c.args.phase < (g.W.UnitWork.course c.args.self.now.work c.args.plan.now).count = omega (arith, l, z) in b) in
    subst (λ (z : ℕ × List ℕ). Enters (g.W.UnitWork.course c.args.self.now.work c.args.plan.now) z.0 z.1) (λ i. (next i, sym c.as_slice.ensures i)) (enters c.args.member _ _ _ _ _ c.args.phase c.requires.passed (full.0 ∙ c.requires.sizes.0) full.1 more)

pub returns-clause-holds : goal.returns-clause-holds
returns-clause-holds g c =
    let full = c.is_left.ensures.0 c.if-not-is_left.false in
    let next : suc c.args.phase ≡ c.args.phase + 1 = omega arith in
    let more = (let l = c.if-phase-self.false in let z = c.requires.sizes.1 in let b : suc c.args.phase < (g.W.UnitWork.course c.args.self.now.work c.args.plan.now).count = omega (arith, l, z) in b) in
    rebase (λ n. n ≢ c.args.member) _ _ _ _ _ _ _ _ _ _
    c.enter.ensures.course refl refl refl (λ z. z) (entered_next c.args.member _ _ _ _ _ c.args.phase c.requires.passed (full.0 ∙ c.requires.sizes.0) full.1 more (g.W.UnitWork.ready c.enter.new.self c.args.plan.now) c.enter.ensures.ready (g.W.UnitWork.entered c.enter.new.self) (c.enter.ensures.entered ∙ sym next))

pub returns-then-not-is_left-clause-holds : goal.returns-then-not-is_left-clause-holds
returns-then-not-is_left-clause-holds g c = remains c.args.member _ _ _ _ _ c.args.phase c.requires.passed (λ a b l. untrue (sym c.if-not-is_left.true ∙ c.is_left.ensures.1 (a ∙ sym c.requires.sizes.0, b)))

pub returns-then-phase-self-clause-holds : goal.returns-then-phase-self-clause-holds
returns-then-phase-self-clause-holds g c = remains c.args.member _ _ _ _ _ c.args.phase c.requires.passed (λ a b l. let z = c.requires.sizes.1 in let t = c.if-phase-self.true in omega (arith, l, z, t))
