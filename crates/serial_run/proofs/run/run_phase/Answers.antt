use Rattle.std.proofs.Common.{◌≡◌, ◌<◌, ◌≤◌, ℕ, sym, ap, ◌∙◌, subst}
use Rattle.phase_ops.specs.Phases.{Cells, none_yet, key}
use Rattle.phase_ops.specs.Free.{Free}
use Rattle.phase_ops.specs.Faults.{HasKey, IsKey}
use Rattle.serial_run.proofs.Hands.{free_key, no_key}
use Rattle.serial_run.proofs.run.run_phase.Goals as goal

pub do_phase-requires-clause-free : goal.do_phase-requires-clause-free
do_phase-requires-clause-free c = subst (λ (m : Cells). Free c.args.phase.now m) (sym c.take_cells.ensures.cells) c.requires.free

pub fault_of-requires : goal.fault_of-requires
fault_of-requires c =
    let p = c.args.phase.now in let m = c.args.memory.now.cells in
    let is : c.do_phase.new.hand.key ≡ key p m 65536 = c.do_phase.ensures.key ∙ ap (λ (x : Cells). key p x 65536) c.take_cells.ensures.cells in
    subst (λ (k : ℕ). HasKey p k) (sym is) (free_key p m c.requires.free (subst (λ (k : ℕ). k < none_yet) is c.if-key-lt18446744073709551615.true))

pub returns-then-key-lt18446744073709551615-clause-fault : goal.returns-then-key-lt18446744073709551615-clause-fault
returns-then-key-lt18446744073709551615-clause-fault c =
    let p = c.args.phase.now in let m = c.args.memory.now.cells in
    let is : c.do_phase.new.hand.key ≡ key p m 65536 = c.do_phase.ensures.key ∙ ap (λ (x : Cells). key p x 65536) c.take_cells.ensures.cells in
    let some = subst (λ (k : ℕ). k < none_yet) is c.if-key-lt18446744073709551615.true in
    (some, (free_key p m c.requires.free some, λ act op element name h. c.fault_of.ensures act op element name (subst (λ (k : ℕ). IsKey p k act op element name) (sym is) h)))

pub returns-clause-fault : goal.returns-clause-fault
returns-clause-fault c =
    let p = c.args.phase.now in let m = c.args.memory.now.cells in
    let is : c.do_phase.new.hand.key ≡ key p m 65536 = c.do_phase.ensures.key ∙ ap (λ (x : Cells). key p x 65536) c.take_cells.ensures.cells in
    no_key p m c.requires.free (subst (λ (k : ℕ). none_yet ≤ k) is c.if-key-lt18446744073709551615.false)
