use Rattle.std.proofs.Common.{◌≡◌, List, length, drop}
use Rattle.phase_ops.specs.declared.effect.Effect.{Effect}
use Rattle.phase_ops.specs.Phases.{acts_events}
use Rattle.act_eval.specs.Sites.{Led, Comes}
use Rattle.act_eval.proofs.acts.run_acts.Given as goal

abbrev pub invariant-loop-at : goal.invariant-loop-at
invariant-loop-at g l = record {
  belongs : g.S.Site.belongs l.site l.hand;
  led : Led (g.S.Site.view l.site l.fn.hand) (g.S.Site.view l.site l.hand);
  long : length l.registers ≡ length l.fn.registers;
  going : (more : List Effect) → Comes (g.S.Site.view l.site l.fn.hand) (acts_events l.iteration 0 l.acts (g.S.Site.view l.site l.fn.hand).cells) more
      → Comes (g.S.Site.view l.site l.hand) (acts_events l.iteration l.at (drop l.at l.acts) (g.S.Site.view l.site l.hand).cells) more;
}
