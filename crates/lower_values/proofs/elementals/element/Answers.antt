use Rattle.std.proofs.Common.{refl, ap}
use Rattle.hlfir_ops.specs.declared.what.What.TheVariants as what
use Rattle.lower_values.specs.Lowerings.{acting}
use Rattle.lower_values.specs.Operations.{on_scalars}
use Rattle.lower_values.proofs.Appended.{appends-by, if-map}
use Rattle.lower_values.proofs.Positions.{element-is}
use Rattle.lower_values.proofs.elementals.element.Goals as goal

pub returns : goal.returns
returns c =
    if-map c.act.result (λ x h names.
    element-is names c.args.what c.args.elem c.args.xs.now c.in_ok-ys.ys c.in_ok-z.z (c.in_ok-ys.ensures names)
    (appends-by (ap (on_scalars c.args.what c.args.elem) c.as_slice.ensures) refl (c.in_ok-z.ensures names))
    (appends-by (ap (acting what.YieldElement) c.in_ok-operands.ensures) refl (h names))) c.act.ensures
