use Rattle.std.proofs.Common.{List, sym, subst}
use Rattle.phase_ops.specs.declared.phase.Phase.{Phase}
use Rattle.team_core.specs.Laws.{MayStart}
use Rattle.team_run.proofs.Reducing.{reduced_may}
use Rattle.team_run.proofs.tests.reductions.reduction.Goals as goal

pub ready-requires-clause-may : goal.ready-requires-clause-may
ready-requires-clause-may c =
    let of = c.requires.case in let t = c.requires.team in
    subst (λ (ps : List Phase). MayStart ps c.in_ok-memory.memory.cells c.args.team c.args.chunk) (sym c.in_ok-phases.ensures)
    (reduced_may c.args.case.kind c.args.count c.args.case.from c.args.team c.args.chunk c.in_ok-memory.memory.cells c.requires.count of.1 of.0 c.in_ok-memory.ensures.values t.0 t.1 t.2)
