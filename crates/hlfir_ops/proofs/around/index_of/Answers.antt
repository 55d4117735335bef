-- The place that comes next hides the names around it.
use Rattle.std.proofs.Common.{◌∙◌}
use Rattle.hlfir_ops.proofs.Outward.{index_more}
use Rattle.hlfir_ops.proofs.around.index_of.Goals as goal

pub each-preserved : goal.each-preserved
each-preserved c =
    c.index_in-found.ensures ∙ index_more c.args.around.now c.each.entered-index c.entered-item.result c.args.name.now c.each.found c.names_at.result.now c.each-test.true c.entered-item.is c.requires c.names_at.ensures c.each.invariant
