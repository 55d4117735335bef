use Rattle.std.proofs.Common.{List, sym, subst, arith}
use Rattle.phase_ops.specs.declared.phase.Phase.{Phase}
use Rattle.team_core.specs.Laws.{MayStart}
use Rattle.team_run.proofs.Adding.{repeated_may}
use Rattle.team_run.proofs.tests.loops.sums.Goals as goal

pub ready-requires-clause-may : goal.ready-requires-clause-may
ready-requires-clause-may c =
    let p = c.requires.phases in let t = c.requires.team in let e = c.in_ok-memory.ensures.room in
    subst (λ (ps : List Phase). MayStart ps c.in_ok-memory.memory.cells c.args.team 64) (sym c.in_ok-phases.ensures)
    (repeated_may c.args.times c.args.count c.args.team 64 c.in_ok-memory.memory.cells p.0 p.2 (omega (arith, e)) t.0 t.1 (omega arith, omega arith))
