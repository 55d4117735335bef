use Rattle.std.proofs.Common.{◌∙◌, ap, sym, arith}
use Rattle.std.specs.List.{flat_map}
use Rattle.ws_counts.specs.Limits as limits
use Rattle.ws_counts.specs.Tallies.{tallied}
use Rattle.ws_counts.proofs.Tallied.{next, done}
use Rattle.ws_counts.proofs.limits.count_bounds.Goals as goal

pub each-preserved : goal.each-preserved
each-preserved c = c.each.invariant ∙ next (limits.bound_pieces c.args.table.now) c.as_slice-bounds.result.now c.each.bound-index c.bound-item.result c.each.tally c.count_bound.new.tally c.each-test.true c.bound-item.is c.count_bound.ensures

pub returns : goal.returns
returns c =
    sym (ap (λ bs. tallied c.args.tally.now (flat_map (limits.bound_pieces c.args.table.now) bs)) (sym c.as_slice-bounds.ensures) ∙ c.each.invariant ∙ done (limits.bound_pieces c.args.table.now) c.as_slice-bounds.result.now c.each.bound-index c.each.tally (omega arith))
