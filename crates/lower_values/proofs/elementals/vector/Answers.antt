use Rattle.std.proofs.Common.{ap, ◌∙◌}
use Rattle.hlfir_ops.specs.declared.kinds.ValueKind.TheVariants.{Array}
use Rattle.hlfir_ops.specs.declared.what.What.TheVariants as what
use Rattle.lower_values.specs.Lowerings.{giving}
use Rattle.lower_values.specs.Operations.{values_of, vector}
use Rattle.lower_values.proofs.Appended.{if-by}
use Rattle.lower_values.proofs.elementals.vector.Goals as goal

pub returns : goal.returns
unfolding vector
returns c =
    if-by c.give.result c.args.build.now c.give.new.build
    (ap (λ os. giving what.Vector os (Array c.first_elem.result 1)) c.in_ok-operands.ensures ∙ ap (λ e. giving what.Vector (values_of c.args.xs.now) (Array e 1)) c.first_elem.ensures) c.give.ensures
