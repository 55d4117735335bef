use Rattle.std.specs.Prelude.{Bool, T, not}
use Rattle.std.proofs.Common.{ℕ, List, length, take, sym, ◌∙◌, subst}
use Rattle.phase_ops.specs.declared.phase.Act.{Act}
use Rattle.act_eval.specs.Sites.{View}
use Rattle.act_eval.proofs.Leads.{led_then}
use Rattle.act_eval.proofs.ActSteps.{rest_of, act_opened, act_done}
use Rattle.act_eval.proofs.acts.run_acts.Goals as goal

pub loop-at-preserved : goal.loop-at-preserved
loop-at-preserved g c =
    let it : ℕ = c.args.iteration in let at : ℕ = c.loop-at.at in let acts : List Act = c.args.acts.now in
    let v : View = g.S.Site.view c.args.site.now c.loop-at.hand in
    let v' : View = g.S.Site.view c.args.site.now c.run_ops-end.new.hand in
    record {
      belongs = c.run_ops-end.ensures.belongs;
      led = led_then (g.S.Site.view c.args.site.now c.args.hand.now) v v' c.loop-at.invariant.led c.run_ops-end.ensures.led;
      long = c.run_ops-end.ensures.same ∙ c.loop-at.invariant.long;
      going = λ more h.
          let o = act_opened it at c.element_of-element.result acts c.index-acts-at.result c.as_slice.result.now v more c.index-acts-at.is c.loop-at-test.true c.element_of-element.ensures.value c.as_slice.ensures (c.loop-at.invariant.going more h) in
          act_done it at acts v' (take (length c.as_slice.result.now) c.run_ops-end.new.registers) more c.run_ops-end.result (λ e. subst (λ (b : Bool). T (not b)) (sym c.if-is_failed.false ∙ c.is_failed.ensures.1 e) tt) (c.run_ops-end.ensures.ended (rest_of it at acts) more o);
    }

pub returns-then-is_failed-clause-led : goal.returns-then-is_failed-clause-led
returns-then-is_failed-clause-led g c = led_then (g.S.Site.view c.args.site.now c.args.hand.now) (g.S.Site.view c.args.site.now c.loop-at.hand) (g.S.Site.view c.args.site.now c.run_ops-end.new.hand) c.loop-at.invariant.led c.run_ops-end.ensures.led
