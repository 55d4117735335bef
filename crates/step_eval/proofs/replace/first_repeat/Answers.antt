use Rattle.std.proofs.Common.{get_or, ◌∙◌, sym, false}
use Rattle.std.proofs.lemmas.List.{get_or_read}
use Rattle.ws_space.specs.Values.{first_repeat}
use Rattle.step_eval.proofs.Replaced.{seen_step}
use Rattle.step_eval.proofs.replace.first_repeat.Goals as goal

pub loop-i-preserved : goal.loop-i-preserved
loop-i-preserved c =
    let inv = c.loop-i.invariant in
    let t = get_or c.args.targets.now c.loop-i.i 0 in
    seen_step c.loop-i.seen.items inv.0 c.args.targets.now c.loop-i.i (first_repeat c.args.targets.now) c.loop-i-test.true inv.2 inv.3
    (sym (sym c.if-index.false ∙ get_or_read c.loop-i.seen.items t c.index.result.now (inv.2 c.loop-i.i 0 c.loop-i-test.true) c.index.ensures false)) inv.1
