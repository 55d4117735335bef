use Rattle.std.proofs.Common.{length, sym, ap, ◌∙◌, subst}
use Rattle.phase_ops.specs.Phases.{Cells, effects}
use Rattle.phase_ops.proofs.Strands.{lay_length}
use Rattle.team_core.specs.Units.{HasCount}
use Rattle.serial_run.proofs.Hands.{free_well}
use Rattle.serial_run.proofs.run.do_phase.Goals as goal

pub count_of-requires : goal.count_of-requires
count_of-requires c =
    let p = c.args.phase.now in let h = c.args.hand.now in
    let well = free_well p h.cells c.requires.free in
    subst (λ (m : Cells). HasCount p m) (sym c.as_slice.ensures) (record { there = well.there; low = well.count.0; high = well.count.1 })

pub returns-then-units_of-gt0-clause-count : goal.returns-then-units_of-gt0-clause-count
returns-then-units_of-gt0-clause-count c = ap length c.do_unit.ensures.cells ∙ lay_length c.args.hand.now.cells (effects c.args.phase.now c.args.hand.now.cells 65536 0)
