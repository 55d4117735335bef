use Rattle.std.proofs.Common.{sym, refl, inl, subst}
use Rattle.phase_ops.specs.declared.phase.Source.{Source}
use Rattle.phase_ops.specs.Phases.{source_cells}
use Rattle.phase_ops.specs.Free.{In}
use Rattle.team_core.proofs.units.number_at.Goals as goal

pub bounds-cells-cell : goal.bounds-cells-cell
bounds-cells-cell c = c.requires.there c.in-Cell.cell (subst (λ (s : Source). In c.in-Cell.cell (source_cells s)) (sym c.in-Cell.is) (inl refl))
