use Rattle.std.proofs.Common.{rules}
use Rattle.slow_eval.specs.Machine.{simple_list}
use Rattle.slow_eval.proofs.InOrder.{small_at, simple_next, simple_stop, simple_end}
use Rattle.slow_eval.proofs.statements.simple_block.Goals as goal

pub simple-requires-clause-small : goal.simple-requires-clause-small
simple-requires-clause-small c = small_at c.args.block.now c.each.stmt-index c.stmt-item.result c.each-test.true c.stmt-item.is c.requires.small

pub returns-in_err-simple-clause-value : goal.returns-in_err-simple-clause-value
returns-in_err-simple-clause-value c =
    let h = simple_stop (simple_list c.args.world.now c.args.block.now) c.args.block.now c.each.stmt-index c.stmt-item.result c.each.world c.in_err-simple.field-0.0 c.each-test.true c.stmt-item.is c.in_err-simple.ensures.value c.each.invariant.rest in
    search rules

pub each-preserved : goal.each-preserved
each-preserved c = record {
  rest = simple_next (simple_list c.args.world.now c.args.block.now) c.args.block.now c.each.stmt-index c.stmt-item.result c.each.world c.simple.new.world c.each-test.true c.stmt-item.is c.in_ok-simple.ensures.value c.each.invariant.rest;
  kept = c.in_ok-simple.ensures.kept;
}

pub returns-clause-value : goal.returns-clause-value
returns-clause-value c = simple_end (simple_list c.args.world.now c.args.block.now) c.args.block.now c.each.stmt-index c.each.world c.each-test.false c.each.invariant.rest
