use Rattle.std.proofs.Common.{ℕ, ◌+◌, ◌-◌, List, subst, arith}
use Rattle.phase_ops.specs.Phases.{Cells, Event, each_from, value_events}
use Rattle.act_eval.specs.declared.site.Worth.{Worth}
use Rattle.act_eval.specs.Sites.{View, IsWorth}
use Rattle.act_eval.proofs.PartSteps.{value_fits, one_more}
use Rattle.act_eval.proofs.parts.found_in.Goals as goal

pub add-requires : goal.add-requires
add-requires g c = record {
  fits = λ z q _.
      let m : Cells = (g.S.Site.view c.args.site.now c.args.hand.now).cells in
      let f : ℕ → List Event = value_events c.args.act.now m in
      let i : ℕ = c.args.from + (c.args.count - 1 - c.loop-at.at) in
      let w : IsWorth c.value_at-worth.result (f i) = subst (λ (v : View). IsWorth c.value_at-worth.result (value_events c.args.act.now v.cells i)) c.loop-at.invariant.same c.value_at-worth.ensures.worth in
      value_fits g.M.Merge.kind z (g.M.Merge.part c.loop-at.part) (f i) (each_from f (c.args.from + (c.args.count - c.loop-at.at)) c.loop-at.at)
      (each_from f (c.args.from + (c.args.count - (c.loop-at.at + 1))) (c.loop-at.at + 1)) (subst (λ (x : Worth). IsWorth x (f i)) q w) c.loop-at.invariant.found.part_is
      (one_more f c.args.from c.args.count c.loop-at.at c.loop-at-test.true) (c.requires.fits (c.loop-at.at + 1) (let t = c.loop-at-test.true in omega (arith, t)));
}
