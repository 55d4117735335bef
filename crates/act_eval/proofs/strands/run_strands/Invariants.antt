use Rattle.std.proofs.Common.{◌≡◌, ◌-◌, length}
use Rattle.phase_ops.specs.Phases.{each_from, strand_effects, lay}
use Rattle.act_eval.proofs.strands.run_strands.Given as goal

abbrev pub invariant-strands : goal.invariant-strands
invariant-strands g l = record {
  belongs : g.S.Site.belongs l.site l.hand;
  left : (g.S.Site.view l.site l.hand).left ≡ each_from (strand_effects l.phase (g.S.Site.view l.site l.fn.hand).cells l.chunks.chunk) l.strand (l.end - l.strand);
  cells : (g.S.Site.view l.site l.hand).cells
      ≡ lay (g.S.Site.view l.site l.fn.hand).cells (each_from (strand_effects l.phase (g.S.Site.view l.site l.fn.hand).cells l.chunks.chunk) l.first (l.strand - l.first));
  may : (g.S.Site.view l.site l.hand).may ≡ (g.S.Site.view l.site l.fn.hand).may;
  long : length l.registers ≡ length l.fn.registers;
}
