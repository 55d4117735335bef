use Rattle.std.proofs.Common.{◌∙◌, sym, arith}
use Rattle.ws_counts.specs.Lists as lists
use Rattle.ws_counts.proofs.Tallied.{next, done}
use Rattle.ws_counts.proofs.Blocks.{forall_counted}
use Rattle.ws_counts.proofs.statements.+stating.Goals as goal

pub count_forall-each-preserved : goal.count_forall-each-preserved
count_forall-each-preserved t c = c.each.invariant ∙ next (lists.part_pieces c.args.table.now) c.args.block.now c.each.stmt-index c.stmt-item.result c.each.tally c.count_part.new.tally c.each-test.true c.stmt-item.is c.in_ok-count_part.ensures

pub count_forall-returns : goal.count_forall-returns
count_forall-returns t c = sym (c.each.invariant ∙ done (lists.part_pieces c.args.table.now) c.args.block.now c.each.stmt-index c.each.tally (omega arith))

pub count_statement-returns-in_ok-count_forall-in-Forall : goal.count_statement-returns-in_ok-count_forall-in-Forall
count_statement-returns-in_ok-count_forall-in-Forall t c = forall_counted c.args.table.now c.args.inside c.args.body.now c.in-Forall.indexes c.as_slice.result.now c.in-Forall.mask c.in-Forall.block c.as_slice-in-Forall-2.result.now c.as_slice-in-Forall.result.now c.args.tally.now c.count_header.new.tally c.count_forall.new.tally
    c.in-Forall.is c.as_slice-in-Forall-2.ensures c.as_slice.ensures (c.as_slice-in-Forall.ensures.value ∙ c.in_ok-inner-in-Forall.ensures.value) c.in_ok-inner-in-Forall.ensures.counted c.in_ok-count_forall-in-Forall.ensures
