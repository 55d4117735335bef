use Rattle.std.proofs.Common.{rules, refl, sym, ap, ◌∙◌, FitsSigned, w32}
use Rattle.std.proofs.lemmas.Int.{to_z-of_z}
use Rattle.hlfir_ops.specs.declared.kinds.Elem.TheVariants.{I32}
use Rattle.lower_values.specs.Operations.{constant}
use Rattle.lower_values.specs.Folding.{rest_of}
use Rattle.lower_values.proofs.Appended.{appends-by, appends-done, if-by}
use Rattle.lower_values.proofs.values.finished.Goals as goal

pub returns-in-Known : goal.returns-in-Known
returns-in-Known c =
    let fits : FitsSigned w32 c.in-Known.value = search rules in
    if-by c.number_constant.result c.args.build.now c.number_constant.new.build (ap (constant I32) (to_z-of_z w32 c.in-Known.value fits) ∙ ap rest_of (sym c.in-Known.is)) c.number_constant.ensures

pub returns-in-Given : goal.returns-in-Given
returns-in-Given c = λ names. appends-by (ap rest_of (sym c.in-Given.is)) refl (appends-done names c.args.build.now c.in-Given.x)
