use Rattle.std.proofs.Common.{sym, ap}
use Rattle.lower_values.specs.References.{size}
use Rattle.lower_values.proofs.Appended.{if-by}
use Rattle.lower_values.proofs.references.size.Goals as goal

pub returns-in-None : goal.returns-in-None
returns-in-None c = if-by c.give_of.result c.args.build.now c.give_of.new.build (ap (λ d. size d c.args.array) (sym c.in-None.is)) c.give_of.ensures

pub returns-in-Some : goal.returns-in-Some
returns-in-Some c = if-by c.bound.result c.args.build.now c.bound.new.build (ap (λ d. size d c.args.array) (sym c.in-Some.is)) c.bound.ensures
