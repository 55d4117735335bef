use Rattle.std.proofs.Common.{◌∙◌, sym, arith, false}
use Rattle.ws_counts.specs.Pieces.{pieces}
use Rattle.ws_counts.proofs.Tallied.{next, done}
use Rattle.ws_counts.proofs.limits.count_items.Goals as goal

pub each-preserved : goal.each-preserved
each-preserved c = c.each.invariant ∙ next (pieces c.args.table.now false false) c.args.es.now c.each.e-index c.e-item.result c.each.tally c.count_expr.new.tally c.each-test.true c.e-item.is c.count_expr.ensures

pub returns : goal.returns
returns c = sym (c.each.invariant ∙ done (pieces c.args.table.now false false) c.args.es.now c.each.e-index c.each.tally (omega arith))
