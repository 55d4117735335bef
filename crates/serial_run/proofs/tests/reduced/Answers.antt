use Rattle.std.proofs.Common.{ℕ, List, length, sym, ap, ◌∙◌, subst}
use Rattle.phase_ops.specs.declared.phase.Phase.{Phase}
use Rattle.phase_ops.specs.Free.{Free}
use Rattle.serial_run.proofs.Sampled.{bits_part_free, bits_join_free, cells_stay}
use Rattle.serial_run.proofs.tests.reduced.Goals as goal

pub run_phase-requires : goal.run_phase-requires
run_phase-requires c =
    let m : List ℕ = c.in_ok-memory.memory.cells in
    record { free = subst (λ (p : Phase). Free p m) (sym c.in_ok-part.ensures) (bits_part_free c.args.kind m c.requires (ap (λ (l : List ℕ). length l) c.in_ok-memory.ensures.cells)) }

pub run_phase-requires-2 : goal.run_phase-requires-2
run_phase-requires-2 c =
    let m : List ℕ = c.run_phase.new.memory.cells in
    let long = cells_stay c.in_ok-part.part c.in_ok-memory.memory.cells m c.run_phase.ensures.cells ∙ ap (λ (l : List ℕ). length l) c.in_ok-memory.ensures.cells in
    record { free = subst (λ (p : Phase). Free p m) (sym c.bits_join-join.ensures) (bits_join_free c.args.kind m c.requires long) }
