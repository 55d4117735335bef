use Rattle.std.proofs.Common.{◌∙◌, sym, arith}
use Rattle.ws_counts.specs.Limits as limits
use Rattle.ws_counts.proofs.Tallied.{next, done}
use Rattle.ws_counts.proofs.limits.count_parts.Goals as goal

pub each-preserved : goal.each-preserved
each-preserved c = c.each.invariant ∙ next (limits.part_pieces c.args.table.now) c.args.parts.now c.each.part-index c.part-item.result c.each.tally c.count_bounds.new.tally c.each-test.true c.part-item.is c.count_bounds.ensures

pub returns : goal.returns
returns c = sym (c.each.invariant ∙ done (limits.part_pieces c.args.table.now) c.args.parts.now c.each.part-index c.each.tally (omega arith))
