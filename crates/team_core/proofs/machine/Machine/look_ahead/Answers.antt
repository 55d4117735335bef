use Rattle.std.proofs.Common.{◌≡◌, ◌≢◌, ℕ, List, ap, sym, refl, ◌∙◌, get_or, set}
use lib.ListN.{get_elem?}
use Rattle.team_core.specs.declared.member.MemberState.{MemberState}
use Rattle.team_core.specs.declared.member.MemberState.TheVariants.{Within}
use Rattle.team_core.specs.declared.state.Member.{Member}
use Rattle.phase_ops.specs.Course.{Course, work_at}
use Rattle.team_core.specs.Core.{member_of, nobody}
use Rattle.team_core.specs.Front.{is_there}
use Rattle.team_core.proofs.Machines.{ready_now, entered_now, unit_there, filled, without, rebase}
use Rattle.team_core.proofs.machine.Machine.look_ahead.Goals as goal

pub effect-next-requires-clause-ready : goal.effect-next-requires-clause-ready
effect-next-requires-clause-ready g c =
    let is = ap (λ (l : List Member). (get_or l c.args.member nobody).state) (sym c.as_slice.ensures) ∙ c.in-Within.is in
    let h = c.requires.holds in
    ready_now (λ n. n ≢ c.args.member) (g.W.UnitWork.course c.args.self.now.work c.args.plan.now) c.args.self.now.state c.args.self.now.pending (g.W.UnitWork.entered c.args.self.now.work) (g.W.UnitWork.ready c.args.self.now.work c.args.plan.now) h c.args.member c.requires.there (ap is_there is)

pub effect-next-requires-clause-unit : goal.effect-next-requires-clause-unit
effect-next-requires-clause-unit g c =
    let is = ap (λ (l : List Member). (get_or l c.args.member nobody).state) (sym c.as_slice.ensures) ∙ c.in-Within.is in
    let h = c.requires.holds in
    unit_there (λ n. n ≢ c.args.member) (g.W.UnitWork.course c.args.self.now.work c.args.plan.now) c.args.self.now.state c.args.self.now.pending (g.W.UnitWork.entered c.args.self.now.work) (g.W.UnitWork.ready c.args.self.now.work c.args.plan.now) h c.args.member c.requires.there c.in-Within.unit c.in-Within.done is

unit_in : MemberState → ℕ
unit_in (Within u d) = u
unit_in _ = 0

done_in : MemberState → ℕ
done_in (Within u d) = d
done_in _ = 0

pub returns-in-Within-clause-holds : goal.returns-in-Within-clause-holds
unfolding unit_in done_in
returns-in-Within-clause-holds g c =
    let course : Course = g.W.UnitWork.course c.args.self.now.work c.args.plan.now in
    let k = c.args.self.now.state in
    let is = ap (λ (l : List Member). (get_or l c.args.member nobody).state) (sym c.as_slice.ensures) ∙ c.in-Within.is in
    let h = c.requires.holds in
    let e = entered_now (λ n. n ≢ c.args.member) course k c.args.self.now.pending (g.W.UnitWork.entered c.args.self.now.work) (g.W.UnitWork.ready c.args.self.now.work c.args.plan.now) h c.args.member c.requires.there (ap is_there is) in
    let found = c.effect-next.ensures.value ∙ ap (λ (t : ℕ). get_elem? ((work_at course t).effects c.in-Within.unit) c.in-Within.done) e in
    rebase (λ n. Unit {0}) course (g.W.UnitWork.course c.effect-next.new.self c.args.plan.now) k k (set c.args.self.now.pending c.args.member c.effect-next.result) c.set.new.self (g.W.UnitWork.entered c.effect-next.new.self) (g.W.UnitWork.entered c.effect-next.new.self)
    (g.W.UnitWork.ready c.effect-next.new.self c.args.plan.now) (g.W.UnitWork.ready c.effect-next.new.self c.args.plan.now) c.effect-next.ensures.course refl c.set.ensures refl (λ z. z)
    (filled course k c.args.self.now.pending (g.W.UnitWork.entered c.args.self.now.work) (g.W.UnitWork.ready c.args.self.now.work c.args.plan.now) c.args.member h c.effect-next.result
    (g.W.UnitWork.entered c.effect-next.new.self) (g.W.UnitWork.ready c.effect-next.new.self c.args.plan.now) c.effect-next.ensures.entered (λ z. c.effect-next.ensures.ready) c.requires.there
    (λ u d st. let same : Within c.in-Within.unit c.in-Within.done ≡ Within u d = sym is ∙ st in
    found ∙ (λ i. get_elem? ((work_at course (member_of k c.args.member).phase).effects (ap unit_in same i)) (ap done_in same i))))

pub returns-in_default : goal.returns-in_default
returns-in_default g c =
    let course : Course = g.W.UnitWork.course c.args.self.now.work c.args.plan.now in
    let k = c.args.self.now.state in record {
      holds = without course k c.args.self.now.pending (g.W.UnitWork.entered c.args.self.now.work) (g.W.UnitWork.ready c.args.self.now.work c.args.plan.now) c.args.member c.requires.holds
          (λ u d st. c.in_default.not-Within u d (ap (λ (l : List Member). (get_or l c.args.member nobody).state) c.as_slice.ensures ∙ st));
      course = refl;
      state = refl;
      same = (refl, refl);
    }
