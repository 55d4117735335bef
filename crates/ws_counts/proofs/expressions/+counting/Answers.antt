use Rattle.std.proofs.Common.{◌∙◌, sym, arith}
use Rattle.ws_counts.specs.Pieces as one
use Rattle.ws_counts.specs.Lists as lists
use Rattle.ws_counts.proofs.Tallied.{next, done}
use Rattle.ws_counts.proofs.Walks.{part_counted, call_counted, unary_counted, binary_counted}
use Rattle.ws_counts.proofs.expressions.+counting.Goals as goal

pub count_all-each-preserved : goal.count_all-each-preserved
count_all-each-preserved t c = c.each.invariant ∙ next (lists.item_pieces c.args.table.now c.args.inside c.args.mask) c.args.es.now c.each.e-index c.e-item.result c.each.tally c.count_item.new.tally c.each-test.true c.e-item.is c.count_item.ensures

pub count_all-returns : goal.count_all-returns
count_all-returns t c = sym (c.each.invariant ∙ done (lists.item_pieces c.args.table.now c.args.inside c.args.mask) c.args.es.now c.each.e-index c.each.tally (omega arith))

pub count_subs-each-preserved : goal.count_subs-each-preserved
count_subs-each-preserved t c = c.each.invariant ∙ next (one.sub_pieces c.args.table.now c.args.inside c.args.mask) c.args.subs.now c.each.sub-index c.sub-item.result c.each.tally c.count_sub.new.tally c.each-test.true c.sub-item.is c.count_sub.ensures

pub count_subs-returns : goal.count_subs-returns
count_subs-returns t c = sym (c.each.invariant ∙ done (one.sub_pieces c.args.table.now c.args.inside c.args.mask) c.args.subs.now c.each.sub-index c.each.tally (omega arith))

pub count_expr-returns-in-Part : goal.count_expr-returns-in-Part
count_expr-returns-in-Part t c = part_counted c.args.table.now c.args.inside c.args.mask c.args.e.now c.in-Part.field-0 c.in-Part.subs c.as_slice.result.now c.args.tally.now c.count_subs.new.tally c.in-Part.is c.as_slice.ensures c.count_subs.ensures

pub count_expr-returns-in-Call : goal.count_expr-returns-in-Call
count_expr-returns-in-Call t c = call_counted c.args.table.now c.args.inside c.args.mask c.args.e.now c.in-Call.word c.in-Call.es c.as_slice-in-Call.result.now c.args.tally.now c.count_call.new.tally c.count_all.new.tally c.in-Call.is c.as_slice-in-Call.ensures c.count_call.ensures c.count_all.ensures

pub count_expr-returns-in-Unary : goal.count_expr-returns-in-Unary
count_expr-returns-in-Unary t c = unary_counted c.args.table.now c.args.inside c.args.mask c.args.e.now c.in-Unary.field-0 c.in-Unary.e c.get-in-Unary.result.now c.args.tally.now c.count.new.tally c.count_expr-in-Unary.new.tally c.in-Unary.is c.get-in-Unary.ensures c.count.ensures c.count_expr-in-Unary.ensures

pub count_expr-returns-in-Binary : goal.count_expr-returns-in-Binary
count_expr-returns-in-Binary t c = binary_counted c.args.table.now c.args.inside c.args.mask c.args.e.now c.in-Binary.field-0 c.in-Binary.a c.in-Binary.b c.get-in-Binary.result.now c.get-in-Binary-2.result.now c.args.tally.now c.count-in-Binary.new.tally c.count_expr-in-Binary.new.tally c.count_expr-in-Binary-2.new.tally c.in-Binary.is c.get-in-Binary.ensures c.get-in-Binary-2.ensures c.count-in-Binary.ensures c.count_expr-in-Binary.ensures c.count_expr-in-Binary-2.ensures
