use Rattle.std.proofs.Common.{◌≡◌}
use Rattle.act_eval.proofs.JoinSteps.{merged_from}
use Rattle.act_eval.proofs.joins.merged_cells.Given as goal

abbrev pub invariant-loop-at : goal.invariant-loop-at
invariant-loop-at g l = record {
  belongs : g.S.Site.belongs l.site l.hand;
  same : g.S.Site.view l.site l.hand ≡ g.S.Site.view l.site l.fn.hand;
  part : g.M.Merge.part l.part ≡ merged_from g.M.Merge.kind (g.S.Site.view l.site l.fn.hand).cells l.first l.count l.at;
}
