use Rattle.std.proofs.Common.{ap}
use Rattle.hlfir_ops.specs.declared.kinds.ValueKind.TheVariants.{Scalar}
use Rattle.lower_values.specs.Lowerings.{giving}
use Rattle.lower_values.specs.Operations.{on_scalars}
use Rattle.lower_values.proofs.Appended.{if-by}
use Rattle.lower_values.proofs.elementals.on_scalars.Goals as goal

pub returns : goal.returns
unfolding on_scalars
returns c = if-by c.give.result c.args.build.now c.give.new.build (ap (λ os. giving c.args.what os (Scalar c.args.elem)) c.in_ok-operands.ensures) c.give.ensures
