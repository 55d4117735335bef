use Rattle.std.proofs.Common.{◌≡◌, List, [], length, drop, take}
use Rattle.phase_ops.specs.declared.effect.Effect.{Effect}
use Rattle.phase_ops.specs.Phases.{ops_events}
use Rattle.act_eval.specs.Sites.{Led, Comes, Rest, spot_of}
use Rattle.act_eval.proofs.acts.run_ops.Given as goal

abbrev pub invariant-loop-at : goal.invariant-loop-at
invariant-loop-at g l = record {
  belongs : g.S.Site.belongs l.site l.hand;
  led : Led (g.S.Site.view l.site l.fn.hand) (g.S.Site.view l.site l.hand);
  long : length l.registers ≡ length l.fn.registers;
  going : (rest : Rest) (more : List Effect) → Comes (g.S.Site.view l.site l.fn.hand) (ops_events (spot_of l.act l.element l.iteration) l.ops (g.S.Site.view l.site l.fn.hand).cells [] rest) more
      → Comes (g.S.Site.view l.site l.hand) (ops_events (spot_of l.act l.element l.iteration) (drop l.at l.ops) (g.S.Site.view l.site l.hand).cells (take l.at l.registers) rest) more;
}
