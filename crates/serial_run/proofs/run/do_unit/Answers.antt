use Rattle.std.proofs.Common.{ℕ, sym, ap, ◌∙◌, subst, length, drop}
use Rattle.phase_ops.specs.Phases.{lay, least_key}
use Rattle.act_eval.specs.Strands.{AreChunks, UnitBegins}
use Rattle.serial_run.specs.Hands.{Order, IsAt}
use Rattle.serial_run.proofs.Hands.{begun, begins, all_done, has_room}
use Rattle.serial_run.proofs.run.do_unit.Goals as goal

pub run_strands-requires-clause-belongs : goal.run_strands-requires-clause-belongs
run_strands-requires-clause-belongs g c =
    subst (λ (o : Order). IsAt o c.args.hand.now) (sym c.requires.order) (begun c.args.phase.now c.args.hand.now c.requires.free c.requires.there c.requires.start.0 c.requires.start.1)

pub run_strands-requires-clause-begins : goal.run_strands-requires-clause-begins
run_strands-requires-clause-begins g c =
    let h = c.args.hand.now in let p = c.args.phase.now in
    subst (λ (x : Order × ℕ). UnitBegins (record { left = drop h.done x.0.effects; cells = h.cells; may = x.0.may }) p x.1 c.args.chunks.count 0) (λ i. (sym c.requires.order i, sym c.requires.chunks.0 i))
    (begins p h c.requires.free c.requires.there c.requires.start.0 c.args.chunks.count c.requires.few (subst (λ (k : ℕ). AreChunks k c.args.chunks.count) c.requires.chunks.0 c.requires.chunks.1) c.requires.count)

pub run_strands-requires-clause-room : goal.run_strands-requires-clause-room
run_strands-requires-clause-room g c = has_room c.args.phase.now c.args.hand.now.cells (length c.args.registers.now) c.requires.free c.requires.room

pub returns-clause-cells : goal.returns-clause-cells
returns-clause-cells g c =
    (all_done g.K.Runs.order c.run_strands.new.hand c.run_strands.ensures.belongs c.run_strands.ensures.done).0 ∙ ap (λ (o : Order). lay o.opening o.effects) c.requires.order

pub returns-clause-key : goal.returns-clause-key
returns-clause-key g c =
    (all_done g.K.Runs.order c.run_strands.new.hand c.run_strands.ensures.belongs c.run_strands.ensures.done).1 ∙ ap (λ (o : Order). least_key o.effects) c.requires.order
