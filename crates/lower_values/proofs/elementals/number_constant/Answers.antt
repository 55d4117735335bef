use Rattle.std.proofs.Common.{rules, ap, ◌∙◌, FitsSigned, w32, w64}
use Rattle.std.proofs.lemmas.Int.{to_z-of_z}
use Rattle.hlfir_ops.specs.declared.kinds.Elem.TheVariants.{I32}
use Rattle.lower_values.specs.Operations.{constant}
use Rattle.lower_values.proofs.Appended.{if-by}
use Rattle.lower_values.proofs.elementals.number_constant.Goals as goal

pub returns : goal.returns
returns c =
    let fits : FitsSigned w64 c.from.result = search rules in
    let narrow : FitsSigned w32 c.args.value = search rules in
    if-by c.constant.result c.args.build.now c.constant.new.build (ap (constant I32) (to_z-of_z w64 c.from.result fits ∙ (c.from.ensures ∙ to_z-of_z w32 c.args.value narrow))) c.constant.ensures
