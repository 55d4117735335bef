use Rattle.std.proofs.Common.{◌<◌, length, subst, sym, ap, ◌∙◌, All, arith}
use Rattle.ws_space.specs.Shapes.{all_places}
use Rattle.term_eval.specs.Limits.{IsFew}
use Rattle.term_eval.proofs.Elements.{few_places}
use Rattle.term_eval.proofs.terms.whole.Goals as goal

pub values-requires-clause-few : goal.values-requires-clause-few
values-requires-clause-few c =
    let few : IsFew c.in_ok-shape.shape = c.in_ok-shape.ensures.few (subst (All IsFew) (sym c.as_slice-2.ensures) (c.in_ok-operands.ensures.few c.requires)) in
    let small = few_places c.in_ok-shape.shape c.in_ok-places.places c.as_slice-4.result.now few (c.in_ok-places.ensures ∙ ap all_places c.as_slice-3.ensures) c.as_slice-4.ensures in
    omega (arith, small)

pub later-requires : goal.later-requires
later-requires c =
    let few : IsFew c.in_ok-shape.shape = c.in_ok-shape.ensures.few (subst (All IsFew) (sym c.as_slice-2.ensures) (c.in_ok-operands.ensures.few c.requires)) in
    let small = few_places c.in_ok-shape.shape c.in_ok-places.places c.as_slice-4.result.now few (c.in_ok-places.ensures ∙ ap all_places c.as_slice-3.ensures) c.as_slice-4.ensures in
    let along : c.in-Err-Failed.trouble.element < length c.as_slice-4.result.now = rw c.in-Err-Failed.field-0-is at c.in-Err-Failed.ensures.along in
    omega (arith, small, along)
