use Rattle.std.proofs.Common.{refl, ap, ◌∙◌}
use Rattle.lower_values.specs.References.{inquiry, inquiry_of, inquiry_or_nothing, dimension_in}
use Rattle.lower_values.proofs.Appended.{appends-by, appends-done, if-map}
use Rattle.lower_values.proofs.references.inquiry.Goals as goal

pub returns-in-Some : goal.returns-in-Some
unfolding inquiry
returns-in-Some c =
    if-map c.inquiry_of.result (λ x h.
    appends-by (ap (λ d. inquiry_of c.args.word c.in-Some.name.now d) c.dimension_in.ensures ∙ ap (λ n. inquiry_or_nothing n c.args.word (dimension_in c.args.es.now)) c.in-Some.ensures) refl h) c.inquiry_of.ensures

pub returns-in-None : goal.returns-in-None
unfolding inquiry
returns-in-None c = appends-by (ap (λ n. inquiry_or_nothing n c.args.word (dimension_in c.args.es.now)) c.in-None.ensures) refl (appends-done c.args.names.now c.args.build.now _)
