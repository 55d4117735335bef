use Rattle.std.proofs.Common.{ap, ◌∙◌, Some, []}
use Rattle.hlfir_ops.specs.declared.kinds.ValueKind.TheVariants.{Array}
use Rattle.hlfir_ops.specs.declared.what.What.TheVariants as what
use Rattle.lower_values.specs.Lowerings.{opened}
use Rattle.lower_values.specs.Operations.{at_each}
use Rattle.lower_values.proofs.Holding.{no_names, holds-none, holds-entered, holds-next, appends-giving_by}
use Rattle.lower_values.proofs.elementals.at_each.Goals as goal

pub leave_region-requires : goal.leave_region-requires
leave_region-requires c =
    let begun = holds-none no_names what.Elemental c.line-line.result c.new.result (Some (Array c.args.elem c.args.rank)) c.args.build.now c.begin.new.build c.in_ok-value.ensures.begun in
    holds-entered begun c.in_ok-enter_region.ensures.entered (c.in_ok-element.ensures no_names)

pub returns : goal.returns
unfolding at_each
returns c = λ names.
    let kind = Some (Array c.args.elem c.args.rank) in
    let begun = holds-none names what.Elemental c.line-line.result [] kind c.args.build.now c.begin.new.build (c.in_ok-value.ensures.begun ∙ ap (λ os. opened c.args.build.now what.Elemental c.line-line.result os kind []) c.new.ensures) in
    appends-giving_by c.in_ok-value.value (holds-next begun c.in_ok-enter_region.ensures.entered (c.in_ok-element.ensures names) c.leave_region.ensures) c.line-line.ensures c.in_ok-value.ensures.value
