use Rattle.std.proofs.Common.{◌∙◌, sym, ap, w64}
use Rattle.std.proofs.lemmas.Int.{to_z-of_z}
use Rattle.ws_base.specs.Numbers.{in_range, default_half}
use Rattle.ws_space.specs.Runs.{assigned_scalar}
use Rattle.slow_eval.specs.Machine.{state}
use Rattle.slow_eval.proofs.Forms.{loop_ends, loop_overflows}
use Rattle.slow_eval.proofs.statements.finish_loop.Goals as goal

pub returns-then-not-is_integer-clause-value : goal.returns-then-not-is_integer-clause-value
returns-then-not-is_integer-clause-value c triplet is =
    let same = to_z-of_z w64 c.args.value c.ranges.value in
    loop_overflows c.args.line c.args.var.now triplet (state c.args.machine.now) c.args.value is (ap (in_range default_half) (sym same) ∙ sym c.if-not-is_integer.ensures)

pub returns-clause-value : goal.returns-clause-value
returns-clause-value c triplet is =
    let same = to_z-of_z w64 c.args.value c.ranges.value in
    loop_ends c.args.line c.args.var.now triplet (state c.args.machine.now) (state c.set_scalar.new.machine) c.args.value is (ap (in_range default_half) (sym same) ∙ sym c.if-not-is_integer.ensures)
    (c.in_ok-set_scalar.ensures.value ∙ ap (assigned_scalar (state c.args.machine.now) c.args.var.now) same)
