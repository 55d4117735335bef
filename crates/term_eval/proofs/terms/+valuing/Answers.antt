use Rattle.std.proofs.Common.{◌≡◌, rules, subst, sym, Ok, length, append-nil, ◌∙◌, ap, arith}
use Rattle.std.proofs.Math.ListN.{drop_of_length-le}
use Rattle.term_eval.specs.Lists as lists
use Rattle.term_eval.proofs.Along.{all_along, list-columns-along, list-values-along}
use Rattle.term_eval.specs.Limits.{IsSmallTerm, IsSmallPick}
use Rattle.term_eval.proofs.Weights.{of_section, of_call, of_terms, of_picks}
use Rattle.term_eval.proofs.TermValues.{past-length, next_column, section_stops, section_stops_later, section_value, picks_small, arguments_small, call_stops, call_value_is, unary_value_is, binary_value_is, along_of, stops_along_of}
use Rattle.term_eval.proofs.terms.+valuing.Goals as goal

pub values-returns-in_err-columns-in-Section : goal.values-returns-in_err-columns-in-Section
values-returns-in_err-columns-in-Section t c =
    let s = section_stops c.args.t.now c.in-Section.array c.in-Section.picks c.as_slice-in-Section.result.now c.in-Section.is c.as_slice-in-Section.ensures c.args.places.now c.in_err-columns-in-Section.field-0.0 c.in_err-columns-in-Section.ensures.value in
    let a = stops_along_of c.args.t.now c.args.places.now c.in_err-columns-in-Section.field-0.0 s in
    record { value = search (rules, s); along = search (rules, a) }

pub values-returns-in_err-columns-in-Call : goal.values-returns-in_err-columns-in-Call
values-returns-in_err-columns-in-Call t c =
    let s = call_stops c.args.t.now c.in-Call.word c.in-Call.ts c.as_slice-in-Call.result.now c.in-Call.is c.as_slice-in-Call.ensures c.args.places.now c.in_err-columns-in-Call.field-0.0 c.in_err-columns-in-Call.ensures.value in
    let a = stops_along_of c.args.t.now c.args.places.now c.in_err-columns-in-Call.field-0.0 s in
    record { value = search (rules, s); along = search (rules, a) }

pub values-returns-in_err-selected-in-Section : goal.values-returns-in_err-selected-in-Section
values-returns-in_err-selected-in-Section t c =
    let s = section_stops_later c.args.t.now c.in-Section.array c.in-Section.picks c.as_slice-in-Section.result.now c.in-Section.is c.as_slice-in-Section.ensures c.args.places.now c.in_ok-columns-in-Section.columns c.as_slice-in-Section-2.result.now c.in_ok-columns-in-Section.ensures.value c.as_slice-in-Section-2.ensures c.in_err-selected-in-Section.field-0.0 c.in_err-selected-in-Section.ensures in
    let a = stops_along_of c.args.t.now c.args.places.now c.in_err-selected-in-Section.field-0.0 s in
    record { value = search (rules, s); along = search (rules, a) }

pub values-returns-in_ok-listed-in-Section : goal.values-returns-in_ok-listed-in-Section
values-returns-in_ok-listed-in-Section t c =
    let v =
    section_value c.args.t.now c.in-Section.array c.in-Section.picks c.as_slice-in-Section.result.now c.in-Section.is c.as_slice-in-Section.ensures c.args.places.now c.in_ok-columns-in-Section.columns c.as_slice-in-Section-2.result.now c.in_ok-columns-in-Section.ensures.value c.as_slice-in-Section-2.ensures
    c.in_ok-selected-in-Section.selected c.as_slice-in-Section-4.result.now c.as_slice-in-Section-3.result.now c.in_ok-listed-in-Section.field-0 c.in_ok-selected-in-Section.ensures c.as_slice-in-Section-4.ensures c.as_slice-in-Section-3.ensures c.in_ok-listed-in-Section.ensures in
    record { value = v; along = along_of c.args.t.now c.args.places.now (Ok c.in_ok-listed-in-Section.field-0) v }

pub values-returns-in_ok-columns-in-Call : goal.values-returns-in_ok-columns-in-Call
values-returns-in_ok-columns-in-Call t c =
    let v =
    call_value_is c.args.t.now c.in-Call.word c.in-Call.ts c.as_slice-in-Call.result.now c.in-Call.is c.as_slice-in-Call.ensures c.args.places.now c.in_ok-columns-in-Call.columns c.as_slice-in-Call-2.result.now c.call_map.result c.in_ok-columns-in-Call.ensures.value c.as_slice-in-Call-2.ensures c.call_map.ensures in
    record { value = v; along = along_of c.args.t.now c.args.places.now c.call_map.result v }

pub values-returns-in_ok-operand-in-Unary-clause-along : goal.values-returns-in_ok-operand-in-Unary-clause-along
values-returns-in_ok-operand-in-Unary-clause-along t c =
    along_of c.args.t.now c.args.places.now c.unary_map.result (unary_value_is c.args.t.now c.in-Unary.t c.get.result.now c.in-Unary.op c.args.places.now c.in_ok-operand-in-Unary.operand c.as_slice-in-Unary.result.now c.unary_map.result c.in-Unary.is c.get.ensures c.in_ok-operand-in-Unary.ensures.value c.as_slice-in-Unary.ensures c.unary_map.ensures)

pub values-returns-in_ok-right-in-Binary-clause-along : goal.values-returns-in_ok-right-in-Binary-clause-along
values-returns-in_ok-right-in-Binary-clause-along t c =
    along_of c.args.t.now c.args.places.now c.binary_map.result (binary_value_is c.args.t.now c.in-Binary.t c.in-Binary.u c.get-in-Binary.result.now c.get-in-Binary-2.result.now c.in-Binary.op c.args.places.now c.in_ok-left-in-Binary.left c.in_ok-right-in-Binary.right c.as_slice-in-Binary.result.now c.as_slice-in-Binary-2.result.now c.binary_map.result c.in-Binary.is c.get-in-Binary.ensures c.get-in-Binary-2.ensures c.in_ok-left-in-Binary.ensures.value c.in_ok-right-in-Binary.ensures.value c.as_slice-in-Binary.ensures c.as_slice-in-Binary-2.ensures c.binary_map.ensures)

pub all_values-returns-clause-along : goal.all_values-returns-clause-along
all_values-returns-clause-along t c = all_along c.each.columns (length c.args.places.now) (lists.all_values c.args.ts.now c.args.places.now) (c.each.invariant ∙ ap (λ l. lists.then_rest c.each.columns (lists.all_values l c.args.places.now)) (drop_of_length-le c.args.ts.now (omega arith)) ∙ ap Ok (append-nil c.each.columns)) (list-values-along c.args.ts.now c.args.places.now)

pub columns-returns-clause-along : goal.columns-returns-clause-along
columns-returns-clause-along t c = all_along c.each.columns (length c.args.places.now) (lists.columns c.args.picks.now c.args.places.now) (c.each.invariant.same ∙ ap (λ l. lists.then_rest c.each.columns (lists.columns l c.each.rest)) (drop_of_length-le c.args.picks.now (omega arith)) ∙ ap Ok (append-nil c.each.columns)) (list-columns-along c.args.picks.now c.args.places.now)

pub values-columns-requires : goal.values-columns-requires
values-columns-requires t c =
    (of_section t c.args.t.now c.in-Section.array c.in-Section.picks c.as_slice-in-Section.result.now c.decreases c.in-Section.is c.as_slice-in-Section.ensures, (picks_small c.args.t.now c.in-Section.array c.in-Section.picks c.as_slice-in-Section.result.now c.in-Section.is c.as_slice-in-Section.ensures c.args.places.now c.requires.small, c.requires.few))

pub values-all_values-requires : goal.values-all_values-requires
values-all_values-requires t c =
    (of_call t c.args.t.now c.in-Call.word c.in-Call.ts c.as_slice-in-Call.result.now c.decreases c.in-Call.is c.as_slice-in-Call.ensures, (arguments_small c.args.t.now c.in-Call.word c.in-Call.ts c.as_slice-in-Call.result.now c.in-Call.is c.as_slice-in-Call.ensures c.args.places.now c.requires.small, c.requires.few))

pub all_values-values-requires : goal.all_values-values-requires
all_values-values-requires t c =
    (of_terms t c.args.ts.now c.each.t-index c.t-item.result c.decreases c.each-test.true c.t-item.is, (subst IsSmallTerm (sym c.t-item.is) (c.requires.small c.each.t-index c.t-item.result c.each-test.true), c.requires.few))

pub columns-column-requires : goal.columns-column-requires
columns-column-requires t c = (
  of_picks t c.args.picks.now c.each.pick-index c.pick-item.result c.decreases c.each-test.true c.pick-item.is,
  (subst IsSmallPick (sym c.pick-item.is) (c.requires.small c.each.pick-index c.pick-item.result c.each-test.true), omega (arith, ap length c.as_slice.ensures, c.each.invariant.as_many, c.requires.few)),
)

pub columns-each-preserved : goal.columns-each-preserved
columns-each-preserved t c =
    let picks : lists.reach c.pick-item.result ≡ c.in_ok-reach.field-0 = sym c.in_ok-reach.ensures in
    let moved : c.in_ok-rest-2.rest ≡ lists.past (lists.reach c.pick-item.result) c.each.rest = c.in_ok-rest-2.ensures ∙ ap (λ r. lists.past r c.each.rest) (sym picks) in
    let first : lists.column c.pick-item.result c.each.rest ≡ Ok c.in_ok-first.first = ap (lists.column c.pick-item.result) (sym c.as_slice.ensures) ∙ c.in_ok-first.ensures in
    record {
      as_many = ap length moved ∙ past-length (lists.reach c.pick-item.result) c.each.rest ∙ c.each.invariant.as_many;
      same = next_column c.args.picks.now c.each.pick-index c.pick-item.result c.each.columns c.push.new.self c.each.rest c.in_ok-rest-2.rest c.in_ok-first.first (lists.columns c.args.picks.now c.args.places.now) c.each-test.true c.pick-item.is first c.in_ok-push.ensures.ok moved c.each.invariant.same;
    }
