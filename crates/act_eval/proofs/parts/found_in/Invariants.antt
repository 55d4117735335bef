use Rattle.std.proofs.Common.{◌≡◌, ◌+◌, ◌-◌, length}
use Rattle.phase_ops.specs.Phases.{each_from, value_events}
use Rattle.act_eval.specs.Sites.{IsFound}
use Rattle.act_eval.proofs.parts.found_in.Given as goal

abbrev pub invariant-loop-at : goal.invariant-loop-at
invariant-loop-at g l = record {
  belongs : g.S.Site.belongs l.site l.hand;
  same : g.S.Site.view l.site l.hand ≡ g.S.Site.view l.site l.fn.hand;
  long : length l.registers ≡ length l.fn.registers;
  found : IsFound g.M.Merge.kind l.least (g.M.Merge.part l.part) (each_from (value_events l.act (g.S.Site.view l.site l.fn.hand).cells) (l.from + (l.count - l.at)) l.at);
}
