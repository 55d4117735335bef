use Rattle.std.proofs.Common.{sym, ap, ◌∙◌, subst}
use Rattle.phase_ops.specs.Phases.{Cells}
use Rattle.phase_ops.specs.Free.{Free}
use Rattle.phase_board.specs.Memories.{Parts}
use Rattle.serial_run.proofs.tests.ends.Goals as goal

pub run_phase-requires : goal.run_phase-requires
run_phase-requires c = record { free = subst (λ (m : Cells). Free c.args.phase.now m) (sym (ap (λ (p : Parts). p.cells) c.give_cells.ensures ∙ c.in_ok-from_slice.ensures)) c.requires.free }
