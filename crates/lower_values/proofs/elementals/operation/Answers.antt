use Rattle.std.proofs.Common.{sym, ap, ◌∙◌}
use Rattle.lower_values.specs.Operations.{at_each}
use Rattle.lower_values.proofs.Appended.{if-by}
use Rattle.lower_values.proofs.Positions.{operation-scalars, operation-arrays}
use Rattle.lower_values.proofs.elementals.operation.Goals as goal

pub returns-then-rank-eq0 : goal.returns-then-rank-eq0
returns-then-rank-eq0 c = if-by c.on_scalars.result c.args.build.now c.on_scalars.new.build (sym (operation-scalars c.args.what c.args.elem c.args.xs.now (sym c.rank_among-rank.ensures ∙ c.if-rank-eq0.true))) c.on_scalars.ensures

pub returns-else-rank-eq0 : goal.returns-else-rank-eq0
returns-else-rank-eq0 c =
    if-by c.at_each.result c.args.build.now c.at_each.new.build (ap (λ rank. at_each c.args.what c.args.elem rank c.args.xs.now) c.rank_among-rank.ensures ∙ sym (operation-arrays c.args.what c.args.elem c.args.xs.now (λ none. c.if-rank-eq0.false (c.rank_among-rank.ensures ∙ none)))) c.at_each.ensures
