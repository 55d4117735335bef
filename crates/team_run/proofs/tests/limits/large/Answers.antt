use Rattle.std.proofs.Common.{List, sym, subst, arith}
use Rattle.phase_ops.specs.declared.phase.Phase.{Phase}
use Rattle.team_core.specs.Laws.{MayStart}
use Rattle.team_run.proofs.Idling.{idle_may}
use Rattle.team_run.proofs.tests.limits.large.Goals as goal

pub ready-requires-clause-may : goal.ready-requires-clause-may
ready-requires-clause-may c =
    subst (λ (ps : List Phase). MayStart ps c.in_ok-memory.memory.cells 64 1) (sym c.in_ok-phases.ensures)
    (idle_may c.args.registers 64 1 c.in_ok-memory.memory.cells c.requires (omega arith) (omega arith) (omega arith, omega arith))
