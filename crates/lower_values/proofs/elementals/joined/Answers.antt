use Rattle.std.proofs.Common.{refl, sym, ap}
use Rattle.lower_values.specs.Operations.{joined}
use Rattle.lower_values.proofs.Appended.{appends-by, appends-done, if-by}
use Rattle.lower_values.proofs.elementals.joined.Goals as goal

pub returns-in-None : goal.returns-in-None
returns-in-None c = λ names. appends-by (ap (λ o. joined c.args.op o c.args.y) (sym c.in-None.is)) refl (appends-done names c.args.build.now c.args.y)

pub returns-in-Some : goal.returns-in-Some
returns-in-Some c = if-by c.binary_operation.result c.args.build.now c.binary_operation.new.build (ap (λ o. joined c.args.op o c.args.y) (sym c.in-Some.is)) c.binary_operation.ensures
