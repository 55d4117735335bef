use Rattle.std.proofs.Common.{◌≡◌, rules, arith, refl, sym, ap, subst, pos, ◌∙◌, length}
use Rattle.ws_base.specs.Numbers.{truth}
use Rattle.ws_space.specs.Maps.{everywhere_same}
use Rattle.term_eval.specs.Limits.{IsSmall}
use Rattle.term_eval.proofs.ExprWeights.{of_part, of_call, of_exprs}
use Rattle.term_eval.proofs.WalkValues.{part_small, arguments_small}
use Rattle.step_eval.proofs.OverForms.{number_values, truth_values, zero_values, part_stops, part_value, inquiry_values, call_stops, call_value, binary_value, of_one, small_one}
use Rattle.step_eval.proofs.OverValues.{values_along, arguments_along, subscripts_along}
use Rattle.step_eval.proofs.combinations.+over.Goals as goal

pub arguments_over-over-requires : goal.arguments_over-over-requires
arguments_over-over-requires t c =
    (of_exprs t c.args.es.now c.each.e-index c.e-item.result c.decreases c.each-test.true c.e-item.is, (c.requires.world, (subst IsSmall (sym c.e-item.is) (c.requires.small c.each.e-index c.e-item.result c.each-test.true), c.requires.combinations)))

pub over-subscripts_over-requires : goal.over-subscripts_over-requires
over-subscripts_over-requires t c =
    (of_part t c.args.e.now c.in-Part.name c.in-Part.subs c.as_slice.result.now c.decreases c.in-Part.is c.as_slice.ensures, (c.requires.world, (part_small c.args.e.now c.in-Part.name c.in-Part.subs c.as_slice.result.now c.requires.small c.in-Part.is c.as_slice.ensures, c.requires.combinations)))

pub over-returns-in_err-subscripts-in-Part : goal.over-returns-in_err-subscripts-in-Part
over-returns-in_err-subscripts-in-Part t c =
    let s = part_stops c.args.world.now c.args.indexes.now c.args.triplets.now c.args.places.now c.args.e.now c.in-Part.name c.in-Part.name c.in-Part.subs c.as_slice.result.now c.in-Part.is refl c.as_slice.ensures c.in_err-subscripts-in-Part.field-0.0 c.in_err-subscripts-in-Part.ensures in
    search (rules, s)

pub over-elements_over-requires-clause-columns : goal.over-elements_over-requires-clause-columns
over-elements_over-requires-clause-columns t c =
    subscripts_along c.args.world.now c.args.indexes.now c.args.triplets.now c.args.places.now c.as_slice.result.now c.in_ok-subscripts-in-Part.subscripts c.as_slice-in-Part.result.now c.in_ok-subscripts-in-Part.ensures c.as_slice-in-Part.ensures

pub over-returns-in_ok-subscripts-in-Part : goal.over-returns-in_ok-subscripts-in-Part
over-returns-in_ok-subscripts-in-Part t c =
    part_value c.args.world.now c.args.indexes.now c.args.triplets.now c.args.places.now c.args.e.now c.in-Part.name c.as_str.result.now c.in-Part.subs c.as_slice.result.now c.in-Part.is c.as_str.ensures c.as_slice.ensures c.as_slice-vars.result.now c.in_ok-subscripts-in-Part.subscripts c.as_slice-in-Part.result.now c.elements_over.result
    c.as_slice-vars.ensures c.in_ok-subscripts-in-Part.ensures c.as_slice-in-Part.ensures c.elements_over.ensures

pub over-returns-then-is_inquiry : goal.over-returns-then-is_inquiry
over-returns-then-is_inquiry t c =
    inquiry_values c.args.world.now c.args.indexes.now c.args.triplets.now c.args.places.now c.args.e.now c.in-Call.word c.in-Call.es c.as_slice-then-is_inquiry.result.now c.in-Call.is c.as_slice-then-is_inquiry.ensures c.inquiry.result c.everywhere.result (sym c.is_inquiry.ensures ∙ c.if-is_inquiry.true) c.inquiry.ensures c.everywhere.ensures

pub over-arguments_over-requires : goal.over-arguments_over-requires
over-arguments_over-requires t c =
    (of_call t c.args.e.now c.in-Call.word c.in-Call.es c.as_slice-in-Call.result.now c.decreases c.in-Call.is c.as_slice-in-Call.ensures, (c.requires.world, (arguments_small c.args.e.now c.in-Call.word c.in-Call.es c.as_slice-in-Call.result.now c.requires.small c.in-Call.is c.as_slice-in-Call.ensures, c.requires.combinations)))

pub over-returns-in_err-arguments-in-Call : goal.over-returns-in_err-arguments-in-Call
over-returns-in_err-arguments-in-Call t c =
    let s = call_stops c.args.world.now c.args.indexes.now c.args.triplets.now c.args.places.now c.args.e.now c.in-Call.word c.in-Call.es c.as_slice-in-Call.result.now c.in-Call.is c.as_slice-in-Call.ensures (sym c.is_inquiry.ensures ∙ c.if-is_inquiry.false) c.in_err-arguments-in-Call.field-0.0 c.in_err-arguments-in-Call.ensures in
    search (rules, s)

pub over-call_map-requires-clause-columns : goal.over-call_map-requires-clause-columns
over-call_map-requires-clause-columns t c =
    arguments_along c.args.world.now c.args.indexes.now c.args.triplets.now c.args.places.now c.as_slice-in-Call.result.now c.in_ok-arguments-in-Call.arguments c.as_slice-in-Call-2.result.now c.in_ok-arguments-in-Call.ensures c.as_slice-in-Call-2.ensures

pub over-returns-in_ok-arguments-in-Call : goal.over-returns-in_ok-arguments-in-Call
over-returns-in_ok-arguments-in-Call t c =
    call_value c.args.world.now c.args.indexes.now c.args.triplets.now c.args.places.now c.args.e.now c.in-Call.word c.in-Call.es c.as_slice-in-Call.result.now c.in-Call.is c.as_slice-in-Call.ensures (sym c.is_inquiry.ensures ∙ c.if-is_inquiry.false) c.in_ok-arguments-in-Call.arguments c.as_slice-in-Call-2.result.now c.call_map.result
    c.in_ok-arguments-in-Call.ensures c.as_slice-in-Call-2.ensures c.call_map.ensures

pub over-unary_map-requires : goal.over-unary_map-requires
over-unary_map-requires t c =
    let n = values_along c.args.world.now c.args.indexes.now c.args.triplets.now c.args.places.now c.get-in-Unary.result.now c.in_ok-operand-in-Unary.operand c.in_ok-operand-in-Unary.ensures in
    omega (arith, n, ap length c.as_slice-in-Unary.ensures, c.requires.combinations.places.few)

pub over-binary_map-requires-clause-left : goal.over-binary_map-requires-clause-left
over-binary_map-requires-clause-left t c =
    ap length c.as_slice-in-Binary.ensures ∙ values_along c.args.world.now c.args.indexes.now c.args.triplets.now c.args.places.now c.get-in-Binary.result.now c.in_ok-left-in-Binary.left c.in_ok-left-in-Binary.ensures

pub over-binary_map-requires-clause-right : goal.over-binary_map-requires-clause-right
over-binary_map-requires-clause-right t c =
    ap length c.as_slice-in-Binary-2.ensures ∙ values_along c.args.world.now c.args.indexes.now c.args.triplets.now c.args.places.now c.get-in-Binary-2.result.now c.in_ok-right-in-Binary.right c.in_ok-right-in-Binary.ensures

pub over-returns-in_ok-right-in-Binary : goal.over-returns-in_ok-right-in-Binary
over-returns-in_ok-right-in-Binary t c =
    binary_value c.args.world.now c.args.indexes.now c.args.triplets.now c.args.places.now c.args.e.now c.in-Binary.e c.in-Binary.f c.get-in-Binary.result.now c.get-in-Binary-2.result.now c.in-Binary.op c.in_ok-left-in-Binary.left c.as_slice-in-Binary.result.now c.in_ok-right-in-Binary.right c.as_slice-in-Binary-2.result.now c.binary_map.result
    c.in-Binary.is c.get-in-Binary.ensures c.get-in-Binary-2.ensures c.in_ok-left-in-Binary.ensures c.in_ok-right-in-Binary.ensures c.as_slice-in-Binary.ensures c.as_slice-in-Binary-2.ensures c.binary_map.ensures

pub over-returns-in_ok-same_value-in-Number : goal.over-returns-in_ok-same_value-in-Number
over-returns-in_ok-same_value-in-Number t c =
    let same : c.in_ok-same_value-in-Number.field-0 ≡ everywhere_same (pos c.in-Number.n) c.args.places.now = search rules in
    number_values c.args.world.now c.args.e.now c.args.indexes.now c.args.triplets.now c.args.places.now c.in_ok-same_value-in-Number.field-0 c.in-Number.n c.in-Number.is same

pub over-returns-in_ok-same_value-in-Truth : goal.over-returns-in_ok-same_value-in-Truth
over-returns-in_ok-same_value-in-Truth t c =
    let same : c.in_ok-same_value-in-Truth.field-0 ≡ everywhere_same (truth c.in-Truth.value) c.args.places.now = search rules in
    truth_values c.args.world.now c.args.e.now c.args.indexes.now c.args.triplets.now c.args.places.now c.in_ok-same_value-in-Truth.field-0 c.in-Truth.value c.in-Truth.is same

pub over-returns-in_ok-same_value-in-TooWide : goal.over-returns-in_ok-same_value-in-TooWide
over-returns-in_ok-same_value-in-TooWide t c =
    zero_values c.args.world.now c.args.e.now c.args.indexes.now c.args.triplets.now c.args.places.now c.in_ok-same_value-in-TooWide.field-0 c.in-TooWide.is c.in_ok-same_value-in-TooWide.ensures

pub subscripts_over-over-requires : goal.subscripts_over-over-requires
subscripts_over-over-requires t c =
    (of_one t c.args.subs.now c.each.sub-index c.sub-item.result c.in-One.e c.decreases c.each-test.true c.sub-item.is c.in-One.is, (c.requires.world, (small_one c.args.subs.now c.each.sub-index c.sub-item.result c.in-One.e c.requires.small c.each-test.true c.sub-item.is c.in-One.is, c.requires.combinations)))
