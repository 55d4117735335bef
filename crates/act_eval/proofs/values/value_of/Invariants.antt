use Rattle.std.proofs.Common.{◌≡◌, map, length, drop, take}
use Rattle.phase_ops.specs.Phases.{ops_events, calm, last_event}
use Rattle.act_eval.specs.Sites.{spot_of, calm_events}
use Rattle.act_eval.proofs.ValueSteps.{Left}
use Rattle.act_eval.proofs.values.value_of.Given as goal

abbrev pub invariant-loop-at : goal.invariant-loop-at
invariant-loop-at g l = record {
  belongs : g.S.Site.belongs l.site l.hand;
  same : g.S.Site.view l.site l.hand ≡ g.S.Site.view l.site l.fn.hand;
  long : length l.registers ≡ length l.fn.registers;
  left : Left (g.S.Site.view l.site l.fn.hand).may (calm_events (spot_of 0 l.element l.iteration) l.ops (g.S.Site.view l.site l.fn.hand).cells)
      (ops_events (spot_of 0 l.element l.iteration) (map calm (drop l.at l.ops)) (g.S.Site.view l.site l.fn.hand).cells (take l.at l.registers) (λ m' regs. last_event regs));
}
