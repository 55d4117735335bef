use Rattle.std.proofs.Common.{sym, ap, ◌∙◌}
use Rattle.lower_values.specs.References.{bound, bound_or_size}
use Rattle.lower_values.proofs.Appended.{if-by}
use Rattle.lower_values.proofs.references.bound_or_size.Goals as goal

pub returns-in-Some : goal.returns-in-Some
returns-in-Some c =
    if-by c.bound.result c.args.build.now c.bound.new.build (ap (λ d. bound c.in-Some.word d c.args.array) c.dimension.ensures ∙ ap (λ w. bound_or_size w c.args.dim c.args.array) (sym c.in-Some.is)) c.bound.ensures

pub returns-in-None : goal.returns-in-None
returns-in-None c = if-by c.size.result c.args.build.now c.size.new.build (ap (λ w. bound_or_size w c.args.dim c.args.array) (sym c.in-None.is)) c.size.ensures
