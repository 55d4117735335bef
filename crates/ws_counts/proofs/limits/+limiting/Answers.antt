use Rattle.std.proofs.Common.{◌∙◌, sym, arith}
use Rattle.ws_types.proofs.Appended.{next, done}
use Rattle.ws_counts.specs.Limits as limits
use Rattle.ws_counts.proofs.Summed.{next_sum, no_sum_left}
use Rattle.ws_counts.proofs.Regions.{loop_noted, loop_summed, shared_noted}
use Rattle.ws_counts.proofs.limits.+limiting.Goals as goal

pub check_block-each-preserved : goal.check_block-each-preserved
check_block-each-preserved t c = record {
  found = c.each.invariant.found ∙ next (limits.stmt_limits c.args.table.now c.args.shared) c.args.block.now c.each.stmt-index c.stmt-item.result c.each.found c.check_stmt.new.found c.each-test.true c.stmt-item.is c.in_ok-check_stmt.ensures.faults;
  steps = c.each.invariant.steps ∙ next_sum (limits.stmt_steps c.args.table.now) c.args.block.now c.each.stmt-index c.stmt-item.result c.each.sum c.check_stmt.new.sum c.each-test.true c.stmt-item.is c.in_ok-check_stmt.ensures.steps;
}

pub check_block-returns-clause-faults : goal.check_block-returns-clause-faults
check_block-returns-clause-faults t c = sym (c.each.invariant.found ∙ done (limits.stmt_limits c.args.table.now c.args.shared) c.args.block.now c.each.stmt-index c.each.found (omega arith))

pub check_block-returns-clause-steps : goal.check_block-returns-clause-steps
check_block-returns-clause-steps t c = sym (c.each.invariant.steps ∙ no_sum_left (limits.stmt_steps c.args.table.now) c.args.block.now c.each.stmt-index c.each.sum (omega arith))

pub check_body-returns-in_ok-check_block-in-Loop-clause-faults : goal.check_body-returns-in_ok-check_block-in-Loop-clause-faults
check_body-returns-in_ok-check_block-in-Loop-clause-faults t c = loop_noted c.args.table.now c.args.shared c.args.line c.args.body.now c.in-Loop.var c.in-Loop.l c.in-Loop.u c.in-Loop.s c.in-Loop.block c.as_slice.result.now c.args.found.now c.check_loop.new.found c.check_block.new.found
    c.in-Loop.is c.as_slice.ensures c.check_loop.ensures c.in_ok-check_block-in-Loop.ensures.faults

pub check_body-returns-in_ok-check_block-in-Loop-clause-steps : goal.check_body-returns-in_ok-check_block-in-Loop-clause-steps
check_body-returns-in_ok-check_block-in-Loop-clause-steps t c = loop_summed c.args.table.now c.args.line c.args.body.now c.in-Loop.var c.in-Loop.l c.in-Loop.u c.in-Loop.s c.in-Loop.block c.as_slice.result.now c.args.sum.now c.check_block.new.sum
    c.in-Loop.is c.as_slice.ensures c.in_ok-check_block-in-Loop.ensures.steps

pub check_body-returns-in_ok-check_block-in-Shared-clause-faults : goal.check_body-returns-in_ok-check_block-in-Shared-clause-faults
check_body-returns-in_ok-check_block-in-Shared-clause-faults t c = shared_noted c.args.table.now c.args.shared c.args.line c.args.body.now c.in-Shared.block c.as_slice-in-Shared.result.now c.args.found.now c.check_block-in-Shared.new.found c.check_sum.new.found
    c.in-Shared.is c.as_slice-in-Shared.ensures c.if-shared.false c.in_ok-check_block-in-Shared.ensures.faults (c.check_sum.ensures (limits.stmts_steps c.args.table.now c.as_slice-in-Shared.result.now) c.in_ok-check_block-in-Shared.ensures.steps)
