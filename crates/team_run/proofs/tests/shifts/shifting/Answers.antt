use Rattle.std.proofs.Common.{List, sym, subst}
use Rattle.phase_ops.specs.declared.phase.Phase.{Phase}
use Rattle.phase_ops.specs.Phases.{Cells}
use Rattle.team_core.specs.Laws.{MayStart}
use Rattle.team_core.proofs.Shifts.{shift_may}
use Rattle.team_run.proofs.tests.shifts.shifting.Goals as goal

pub ready-requires-clause-may : goal.ready-requires-clause-may
ready-requires-clause-may c =
    subst (λ (x : List Phase × Cells). MayStart x.0 x.1 c.args.team c.args.chunk) (λ i. (sym c.in_ok-phases.ensures i, sym c.in_ok-memory.ensures.0 i)) (shift_may c.args.team c.args.chunk c.requires.0 c.requires.1 c.requires.2)
