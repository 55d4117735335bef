use Rattle.std.proofs.Common.{◌∙◌, sym, arith}
use Rattle.ws_counts.specs.Lists as lists
use Rattle.ws_counts.proofs.Tallied.{next, done}
use Rattle.ws_counts.proofs.Blocks.{masked_counted, else_counted}
use Rattle.ws_counts.proofs.Elses.{next_else, last_else, no_else}
use Rattle.ws_counts.proofs.statements.+masking.Goals as goal

pub count_block-each-preserved : goal.count_block-each-preserved
count_block-each-preserved t c = c.each.invariant ∙ next (lists.stmt_pieces c.args.table.now c.args.inside) c.args.block.now c.each.stmt-index c.stmt-item.result c.each.tally c.count_stmt.new.tally c.each-test.true c.stmt-item.is c.count_stmt.ensures

pub count_block-returns : goal.count_block-returns
count_block-returns t c = sym (c.each.invariant ∙ done (lists.stmt_pieces c.args.table.now c.args.inside) c.args.block.now c.each.stmt-index c.each.tally (omega arith))

pub count_elses-each-preserved : goal.count_elses-each-preserved
count_elses-each-preserved t c = c.each.invariant ∙ next_else c.args.table.now c.args.inside c.args.rest.now c.each.part-index c.part-item.result c.is_last.result c.each.tally c.count_else.new.tally c.each-test.true c.part-item.is c.is_last.ensures c.if-is_last.false c.count_else.ensures

pub count_elses-returns-then-is_last : goal.count_elses-returns-then-is_last
count_elses-returns-then-is_last t c = sym (c.each.invariant ∙ last_else c.args.table.now c.args.inside c.args.rest.now c.each.part-index c.part-item.result c.is_last.result c.each.tally c.count_else.new.tally c.each-test.true c.part-item.is c.is_last.ensures c.if-is_last.true c.count_else.ensures)

pub count_elses-returns : goal.count_elses-returns
count_elses-returns t c = sym (c.each.invariant ∙ no_else c.args.table.now c.args.inside c.args.rest.now c.each.part-index c.each.tally (omega arith))

pub count_where-returns-in-Masked : goal.count_where-returns-in-Masked
count_where-returns-in-Masked t c = masked_counted c.args.table.now c.args.inside c.args.body.now c.in-Masked.mask c.in-Masked.block c.as_slice.result.now c.in-Masked.rest c.as_slice-in-Masked.result.now c.args.tally.now c.count_mask.new.tally c.count_block.new.tally c.count_elses.new.tally
    c.in-Masked.is c.as_slice.ensures c.as_slice-in-Masked.ensures c.count_mask.ensures c.count_block.ensures c.count_elses.ensures

pub count_else-returns : goal.count_else-returns
count_else-returns t c = else_counted c.args.table.now c.args.inside c.args.part.now c.as_slice.result.now c.args.tally.now c.count_given_mask.new.tally c.count_block.new.tally c.as_slice.ensures c.count_given_mask.ensures c.count_block.ensures
