use Rattle.std.proofs.Common.{Err, Result, List, ℕ, rules}
use Rattle.term_eval.specs.declared.stop.Stop.{Stop}
use Rattle.term_eval.proofs.Along.{targets_along_of}
use Rattle.term_eval.proofs.TermValues.{target_stops, target_value, picks_small, array_small}
use Rattle.term_eval.proofs.terms.targets.Goals as goal

pub columns-requires-clause-small : goal.columns-requires-clause-small
columns-requires-clause-small c = picks_small c.args.t.now c.in-Section.array c.in-Section.picks c.as_slice.result.now c.in-Section.is c.as_slice.ensures c.args.places.now c.requires.small

pub places_at-requires-clause-array : goal.places_at-requires-clause-array
places_at-requires-clause-array c = (array_small c.args.t.now c.in-Section.array c.in-Section.picks c.as_slice.result.now c.in-Section.is c.as_slice.ensures c.args.places.now c.requires.small).few

pub returns-in_err-columns-in-Section-clause-value : goal.returns-in_err-columns-in-Section-clause-value
returns-in_err-columns-in-Section-clause-value c =
    let s = target_stops c.args.t.now c.in-Section.array c.in-Section.picks c.as_slice.result.now c.in-Section.is c.as_slice.ensures c.args.places.now c.in_err-columns-in-Section.field-0.0 c.in_err-columns-in-Section.ensures.value in
    search (rules, s)

pub returns-in_err-columns-in-Section-clause-along : goal.returns-in_err-columns-in-Section-clause-along
returns-in_err-columns-in-Section-clause-along c =
    let e : Result (List ℕ) Stop = Err c.in_err-columns-in-Section.field-0.0 in
    let s = targets_along_of c.args.t.now c.args.places.now e
    (target_stops c.args.t.now c.in-Section.array c.in-Section.picks c.as_slice.result.now c.in-Section.is c.as_slice.ensures c.args.places.now c.in_err-columns-in-Section.field-0.0 c.in_err-columns-in-Section.ensures.value) in
    search (rules, s)

pub returns-in_ok-columns-in-Section-clause-value : goal.returns-in_ok-columns-in-Section-clause-value
returns-in_ok-columns-in-Section-clause-value c =
    target_value c.args.t.now c.in-Section.array c.in-Section.picks c.as_slice.result.now c.in-Section.is c.as_slice.ensures c.args.places.now c.in_ok-columns-in-Section.columns c.as_slice-in-Section.result.now c.places_at.result c.in_ok-columns-in-Section.ensures.value c.as_slice-in-Section.ensures c.places_at.ensures

pub returns-in_ok-columns-in-Section-clause-along : goal.returns-in_ok-columns-in-Section-clause-along
returns-in_ok-columns-in-Section-clause-along c =
    targets_along_of c.args.t.now c.args.places.now c.places_at.result
    (target_value c.args.t.now c.in-Section.array c.in-Section.picks c.as_slice.result.now c.in-Section.is c.as_slice.ensures c.args.places.now c.in_ok-columns-in-Section.columns c.as_slice-in-Section.result.now c.places_at.result c.in_ok-columns-in-Section.ensures.value c.as_slice-in-Section.ensures c.places_at.ensures)
