use Rattle.std.proofs.Common.{rules}
use Rattle.slow_eval.specs.Machine.{state, source}
use Rattle.slow_eval.proofs.SameNames.{KeepsNames, read_names}
use Rattle.slow_eval.proofs.Ends.{known_of, reads_on}
use Rattle.slow_eval.proofs.Forms.{read_done, read_halts}
use Rattle.slow_eval.proofs.statements.read.Goals as goal

pub returns-in_err-place-clause-value : goal.returns-in_err-place-clause-value
returns-in_err-place-clause-value c =
    let h = read_halts (source c.args.input.now c.args.machine.now) c.args.line (state c.args.machine.now) c.args.items.now c.in_err-place.field-0.0 c.in_err-place.ensures.value in
    search rules

pub returns-clause-value : goal.returns-clause-value
returns-clause-value c =
    read_done (source c.args.input.now c.args.machine.now) c.args.line (state c.args.machine.now) c.args.items.now c.read_items.new.world c.in_ok-place.place c.next_line-machine.result c.in_ok-place.ensures.value c.next_line-machine.ensures.value

pub returns-clause-kept : goal.returns-clause-kept
returns-clause-kept c =
    let names : KeepsNames c.args.machine.now.world c.read_items.new.world = known_of _ (λ r. KeepsNames c.args.machine.now.world r.0) (c.read_items.new.world, c.in_ok-place.place) c.in_ok-place.ensures.value (read_names c.args.input.now c.args.machine.now.world c.args.line 0 c.args.machine.now.read_to c.args.items.now) in
    reads_on c.args.input.now c.args.machine.now c.read_items.new.world c.next_line-machine.result names c.in_ok-place.ensures.kept c.next_line-machine.ensures.within
