use Rattle.std.proofs.Common.{refl, ap, ◌∙◌}
use Rattle.ws_base.specs.Numbers.{truth}
use Rattle.hlfir_ops.specs.declared.kinds.Elem.TheVariants.{I1}
use Rattle.lower_values.specs.Operations.{constant}
use Rattle.lower_values.specs.References.{boxed, loaded, truth_of, variable_of, variable_or_truth}
use Rattle.lower_values.proofs.Appended.{appends-by, appends-next, if-map}
use Rattle.lower_values.proofs.references.variable_or_truth.Goals as goal

pub returns-in_ok-r-in-Some : goal.returns-in_ok-r-in-Some
returns-in_ok-r-in-Some c =
    let names = c.args.names.now in
    let found = c.in-Some.ensures ∙ ap (λ vs. variable_of vs c.args.name.now) c.as_slice.ensures in
    if-map c.loaded.result (λ y h.
    appends-by (ap (variable_or_truth names c.args.name.now) found) refl
    (appends-next names (boxed c.in-Some.declare) loaded c.args.build.now c.boxed.new.build c.loaded.new.build c.in_ok-r-in-Some.r y (c.in_ok-r-in-Some.ensures names) (h names))) c.loaded.ensures

pub returns-in-None : goal.returns-in-None
returns-in-None c =
    let names = c.args.names.now in
    let x = c.args.name.now in
    let found = c.in-None.ensures ∙ ap (λ vs. variable_of vs x) c.as_slice.ensures in
    let value = c.truth_of-value.ensures ∙ ap (λ ts. truth_of ts x) c.as_slice-in-None.ensures in
    if-map c.truth_constant.result (λ y h. appends-by (ap (λ b. constant I1 (truth b)) value ∙ ap (variable_or_truth names x) found) refl (h names)) c.truth_constant.ensures
