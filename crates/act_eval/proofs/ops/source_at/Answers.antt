use Rattle.phase_ops.specs.declared.phase.Source.{Source}
use Rattle.std.proofs.Common.{inl, sym, refl, subst, ℕ}
use Rattle.phase_ops.specs.Phases.{source_cells}
use Rattle.phase_ops.specs.Free.{In}
use Rattle.act_eval.specs.Sites.{Small}
use Rattle.act_eval.proofs.ops.source_at.Goals as goal

-- src/lib.rt:65:31
pub cell_at-requires-clause-loads : goal.cell_at-requires-clause-loads
cell_at-requires-clause-loads g c = subst (λ (z : ℕ). In z (g.S.Site.view c.args.site.now c.args.hand.now).may × Small z) (sym c.from.ensures) (c.requires.loads c.in-Cell.cell
    (subst (λ (z : Source). In c.in-Cell.cell (source_cells z)) (sym c.in-Cell.is) (inl refl)))
