use Rattle.std.proofs.Common.{rules, arith, Ok, sym, ap, ◌∙◌, subst, drop, FitsSigned, to_z, of_z, w64}
use Rattle.std.proofs.lemmas.Int.{to_z-of_z}
use Rattle.ws_space.specs.Values.{state_of}
use Rattle.array_meaning.specs.declared.term.Term.TheVariants.{Scalar, Listed}
use Rattle.array_meaning.specs.Stage1.{allocated}
use Rattle.term_eval.specs.Limits.{IsSmall, IsSmallSub}
use Rattle.term_eval.proofs.ExprWeights.{of_part, of_call, of_vector, of_exprs, of_subs}
use Rattle.term_eval.proofs.Variables.{few-elements}
use Rattle.term_eval.proofs.WalkForms.{picks-done}
use Rattle.term_eval.proofs.WalkValues.{small_of, walks_small, name_value, picks_stop, part_value, inquiry_fault, inquiry_value, arguments_stop, call_value, items_stop, vector_value, unary_value, binary_value, walks-done, part_small, arguments_small, items_small}
use Rattle.term_eval.proofs.expressions.+walking.Goals as goal

pub picks-returns-then-i-dims-clause-value : goal.picks-returns-then-i-dims-clause-value
picks-returns-then-i-dims-clause-value t c =
    c.each.invariant.same ∙ picks-done c.args.world.now c.args.dims.now (drop c.each.i c.args.subs.now) c.each.i c.each.picks (omega arith)

pub picks-one_pick-requires : goal.picks-one_pick-requires
picks-one_pick-requires t c =
    (of_subs t c.args.subs.now c.each.i c.index-subs-i.result c.decreases c.each-test.true c.index-subs-i.is, (c.requires.world, subst IsSmallSub (sym c.index-subs-i.is) (c.requires.small c.each.i c.index-subs-i.result c.each-test.true)))

pub walk-picks-requires : goal.walk-picks-requires
walk-picks-requires t c =
    (of_part t c.args.e.now c.in-Part.name c.in-Part.subs c.as_slice-in-Part-2.result.now c.decreases c.in-Part.is c.as_slice-in-Part-2.ensures, (c.requires.world, part_small c.args.e.now c.in-Part.name c.in-Part.subs c.as_slice-in-Part-2.result.now c.requires.small c.in-Part.is c.as_slice-in-Part-2.ensures))

pub walk-returns-in_err-picks-in-Part-clause-value : goal.walk-returns-in_err-picks-in-Part-clause-value
walk-returns-in_err-picks-in-Part-clause-value t c =
    let s = picks_stop c.args.world.now c.args.e.now c.in-Part.name c.as_str-in-Part.result.now c.in-Part.subs c.as_slice-in-Part-2.result.now c.as_slice.result.now c.in-Part.is c.as_str-in-Part.ensures c.as_slice-in-Part-2.ensures c.as_slice.ensures c.in_ok-array-in-Part.array.now c.in_ok-array-in-Part.ensures c.as_slice-in-Part.result.now c.in_err-picks-in-Part.field-0.0 (c.as_slice-in-Part.ensures ∙ c.in_ok-dims-in-Part.ensures) c.in_err-picks-in-Part.ensures.value in
    search (rules, s)

pub walk-designator-requires-clause-array : goal.walk-designator-requires-clause-array
walk-designator-requires-clause-array t c =
    few-elements c.args.world.now.vars c.as_str-in-Part.result.now _ c.requires.world.vars (ap (λ vs. allocated (state_of vs c.as_str-in-Part.result.now)) (sym c.as_slice.ensures) ∙ c.in_ok-array-in-Part.ensures)

pub walk-returns-in_err-inquiry-in-Call-clause-value : goal.walk-returns-in_err-inquiry-in-Call-clause-value
walk-returns-in_err-inquiry-in-Call-clause-value t c =
    let s = inquiry_fault c.args.world.now c.args.e.now c.in-Call.word c.in-Call.es c.as_slice-then-is_inquiry.result.now c.in-Call.is c.as_slice-then-is_inquiry.ensures (sym c.is_inquiry.ensures ∙ c.if-is_inquiry.true) c.in_err-inquiry-in-Call.field-0.0 c.in_err-inquiry-in-Call.ensures in
    search (rules, s)

pub walk-returns-then-is_inquiry-clause-value : goal.walk-returns-then-is_inquiry-clause-value
walk-returns-then-is_inquiry-clause-value t c =
    let fits : FitsSigned w64 c.in_ok-inquiry-in-Call.field-0 = search rules in
    inquiry_value c.args.world.now c.args.e.now c.in-Call.word c.in-Call.es c.as_slice-then-is_inquiry.result.now c.in-Call.is c.as_slice-then-is_inquiry.ensures (sym c.is_inquiry.ensures ∙ c.if-is_inquiry.true) c.in_ok-inquiry-in-Call.field-0 (to_z w64 (of_z w64 c.in_ok-inquiry-in-Call.field-0)) (to_z-of_z w64 c.in_ok-inquiry-in-Call.field-0 fits) c.in_ok-inquiry-in-Call.ensures

pub walk-returns-then-is_inquiry-clause-small : goal.walk-returns-then-is_inquiry-clause-small
walk-returns-then-is_inquiry-clause-small t c =
    let fits : FitsSigned w64 c.in_ok-inquiry-in-Call.field-0 = search rules in
    small_of c.args.world.now c.requires.world c.args.e.now c.requires.small (Ok (Scalar (to_z w64 (of_z w64 c.in_ok-inquiry-in-Call.field-0)))) (inquiry_value c.args.world.now c.args.e.now c.in-Call.word c.in-Call.es c.as_slice-then-is_inquiry.result.now c.in-Call.is c.as_slice-then-is_inquiry.ensures (sym c.is_inquiry.ensures ∙ c.if-is_inquiry.true) c.in_ok-inquiry-in-Call.field-0 (to_z w64 (of_z w64 c.in_ok-inquiry-in-Call.field-0)) (to_z-of_z w64 c.in_ok-inquiry-in-Call.field-0 fits) c.in_ok-inquiry-in-Call.ensures)

pub walk-walks-requires : goal.walk-walks-requires
walk-walks-requires t c =
    (of_call t c.args.e.now c.in-Call.word c.in-Call.es c.as_slice-in-Call.result.now c.decreases c.in-Call.is c.as_slice-in-Call.ensures, (c.requires.world, arguments_small c.args.e.now c.in-Call.word c.in-Call.es c.as_slice-in-Call.result.now c.requires.small c.in-Call.is c.as_slice-in-Call.ensures))

pub walk-returns-in_err-ts-in-Call-clause-value : goal.walk-returns-in_err-ts-in-Call-clause-value
walk-returns-in_err-ts-in-Call-clause-value t c =
    let s = arguments_stop c.args.world.now c.args.e.now c.in-Call.word c.in-Call.es c.as_slice-in-Call.result.now c.in-Call.is c.as_slice-in-Call.ensures (sym c.is_inquiry.ensures ∙ c.if-is_inquiry.false) c.in_err-ts-in-Call.field-0.0 c.in_err-ts-in-Call.ensures.value in
    search (rules, s)

pub walk-walks-requires-in-Vector : goal.walk-walks-requires-in-Vector
walk-walks-requires-in-Vector t c =
    (of_vector t c.args.e.now c.in-Vector.es c.as_slice-in-Vector.result.now c.decreases c.in-Vector.is c.as_slice-in-Vector.ensures, (c.requires.world, items_small c.args.e.now c.in-Vector.es c.as_slice-in-Vector.result.now c.requires.small c.in-Vector.is c.as_slice-in-Vector.ensures))

pub walk-returns-in_err-ts-in-Vector-clause-value : goal.walk-returns-in_err-ts-in-Vector-clause-value
walk-returns-in_err-ts-in-Vector-clause-value t c =
    let s = items_stop c.args.world.now c.args.e.now c.in-Vector.es c.as_slice-in-Vector.result.now c.in-Vector.is c.as_slice-in-Vector.ensures c.in_err-ts-in-Vector.field-0.0 c.in_err-ts-in-Vector.ensures.value in
    search (rules, s)

pub walk-returns-in-Named-clause-small : goal.walk-returns-in-Named-clause-small
walk-returns-in-Named-clause-small t c =
    small_of c.args.world.now c.requires.world c.args.e.now c.requires.small c.named.result (name_value c.args.world.now c.args.e.now c.in-Named.name c.as_str.result.now c.in-Named.is c.as_str.ensures c.named.result c.named.ensures)

pub walk-returns-in_ok-picks-in-Part-clause-value : goal.walk-returns-in_ok-picks-in-Part-clause-value
walk-returns-in_ok-picks-in-Part-clause-value t c =
    part_value c.args.world.now c.args.e.now c.in-Part.name c.as_str-in-Part.result.now c.in-Part.subs c.as_slice-in-Part-2.result.now c.as_slice.result.now c.in-Part.is c.as_str-in-Part.ensures c.as_slice-in-Part-2.ensures c.as_slice.ensures c.in_ok-array-in-Part.array.now c.in_ok-array-in-Part.ensures c.as_slice-in-Part.result.now c.in_ok-picks-in-Part.picks c.designator.result (c.as_slice-in-Part.ensures ∙ c.in_ok-dims-in-Part.ensures) c.in_ok-picks-in-Part.ensures.value c.designator.ensures

pub walk-returns-in_ok-picks-in-Part-clause-small : goal.walk-returns-in_ok-picks-in-Part-clause-small
walk-returns-in_ok-picks-in-Part-clause-small t c =
    small_of c.args.world.now c.requires.world c.args.e.now c.requires.small c.designator.result (part_value c.args.world.now c.args.e.now c.in-Part.name c.as_str-in-Part.result.now c.in-Part.subs c.as_slice-in-Part-2.result.now c.as_slice.result.now c.in-Part.is c.as_str-in-Part.ensures c.as_slice-in-Part-2.ensures c.as_slice.ensures c.in_ok-array-in-Part.array.now c.in_ok-array-in-Part.ensures c.as_slice-in-Part.result.now c.in_ok-picks-in-Part.picks c.designator.result (c.as_slice-in-Part.ensures ∙ c.in_ok-dims-in-Part.ensures) c.in_ok-picks-in-Part.ensures.value c.designator.ensures)

pub walk-returns-in_ok-ts-in-Call-clause-value : goal.walk-returns-in_ok-ts-in-Call-clause-value
walk-returns-in_ok-ts-in-Call-clause-value t c =
    call_value c.args.world.now c.args.e.now c.in-Call.word c.in-Call.es c.as_slice-in-Call.result.now c.in-Call.is c.as_slice-in-Call.ensures (sym c.is_inquiry.ensures ∙ c.if-is_inquiry.false) c.in_ok-ts-in-Call.ts c.called.result c.in_ok-ts-in-Call.ensures.value c.called.ensures

pub walk-returns-in_ok-ts-in-Call-clause-small : goal.walk-returns-in_ok-ts-in-Call-clause-small
walk-returns-in_ok-ts-in-Call-clause-small t c =
    small_of c.args.world.now c.requires.world c.args.e.now c.requires.small c.called.result (call_value c.args.world.now c.args.e.now c.in-Call.word c.in-Call.es c.as_slice-in-Call.result.now c.in-Call.is c.as_slice-in-Call.ensures (sym c.is_inquiry.ensures ∙ c.if-is_inquiry.false) c.in_ok-ts-in-Call.ts c.called.result c.in_ok-ts-in-Call.ensures.value c.called.ensures)

pub walk-returns-in_ok-values_of-in-Vector-clause-value : goal.walk-returns-in_ok-values_of-in-Vector-clause-value
walk-returns-in_ok-values_of-in-Vector-clause-value t c =
    vector_value c.args.world.now c.args.e.now c.in-Vector.es c.as_slice-in-Vector.result.now c.in-Vector.is c.as_slice-in-Vector.ensures c.in_ok-ts-in-Vector.ts c.as_slice-in-Vector-2.result.now c.in_ok-values_of-in-Vector.field-0 c.in_ok-ts-in-Vector.ensures.value c.as_slice-in-Vector-2.ensures c.in_ok-values_of-in-Vector.ensures

pub walk-returns-in_ok-values_of-in-Vector-clause-small : goal.walk-returns-in_ok-values_of-in-Vector-clause-small
walk-returns-in_ok-values_of-in-Vector-clause-small t c =
    small_of c.args.world.now c.requires.world c.args.e.now c.requires.small (Ok (Listed c.in_ok-values_of-in-Vector.field-0)) (vector_value c.args.world.now c.args.e.now c.in-Vector.es c.as_slice-in-Vector.result.now c.in-Vector.is c.as_slice-in-Vector.ensures c.in_ok-ts-in-Vector.ts c.as_slice-in-Vector-2.result.now c.in_ok-values_of-in-Vector.field-0 c.in_ok-ts-in-Vector.ensures.value c.as_slice-in-Vector-2.ensures c.in_ok-values_of-in-Vector.ensures)

pub walk-returns-in_ok-t-in-Unary-clause-small : goal.walk-returns-in_ok-t-in-Unary-clause-small
walk-returns-in_ok-t-in-Unary-clause-small t c =
    small_of c.args.world.now c.requires.world c.args.e.now c.requires.small c.unary_on.result (unary_value c.args.world.now c.args.e.now c.in-Unary.e c.get-in-Unary.result.now c.in-Unary.op c.in_ok-t-in-Unary.t c.unary_on.result c.in-Unary.is c.get-in-Unary.ensures c.in_ok-t-in-Unary.ensures.value c.unary_on.ensures)

pub walk-returns-in_ok-u-in-Binary-clause-small : goal.walk-returns-in_ok-u-in-Binary-clause-small
walk-returns-in_ok-u-in-Binary-clause-small t c =
    small_of c.args.world.now c.requires.world c.args.e.now c.requires.small c.binary_on.result (binary_value c.args.world.now c.args.e.now c.in-Binary.e c.in-Binary.f c.get-in-Binary.result.now c.get-in-Binary-2.result.now c.in-Binary.op c.in_ok-t-in-Binary.t c.in_ok-u-in-Binary.u c.binary_on.result c.in-Binary.is c.get-in-Binary.ensures c.get-in-Binary-2.ensures c.in_ok-t-in-Binary.ensures.value c.in_ok-u-in-Binary.ensures.value c.binary_on.ensures)

pub walks-walk-requires : goal.walks-walk-requires
walks-walk-requires t c =
    (of_exprs t c.args.es.now c.each.e-index c.e-item.result c.decreases c.each-test.true c.e-item.is, (c.requires.world, subst IsSmall (sym c.e-item.is) (c.requires.small c.each.e-index c.e-item.result c.each-test.true)))

pub walks-returns-clause-small : goal.walks-returns-clause-small
walks-returns-clause-small t c =
    walks_small c.args.world.now c.requires.world c.args.es.now c.requires.small c.each.ts (walks-done c.args.world.now c.args.es.now c.each.e-index c.each.ts (omega arith) c.each.invariant)
