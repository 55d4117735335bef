use Rattle.std.proofs.Common.{pos, refl, get_or, FitsSigned, w64, rules, arith}
use Rattle.std.proofs.lemmas.Int.{to_z-of_z}
use Rattle.term_eval.proofs.PlaceOf.{few-rest, place-below, place-err}
use Rattle.term_eval.proofs.places.+place.Goals as goal

pub place-requires : goal.place-requires
place-requires t c = (search rules, few-rest c.args.dims.now (record { lower = pos 0; extent = 0 }) _ c.in-len1-up.len_at_least refl _ c.in-Some.ensures.0 c.requires)

pub returns-in_ok-rest-in-len1-up-subscripts-clause-below : goal.returns-in_ok-rest-in-len1-up-subscripts-clause-below
returns-in_ok-rest-in-len1-up-subscripts-clause-below t c =
    let below = place-below c.args.dims.now (record { lower = pos 0; extent = 0 }) _ c.in-len1-up.len_at_least refl _ c.in_ok-rest-in-len1-up-subscripts.rest c.in-Some.offset c.in-Some.ensures c.in_ok-rest-in-len1-up-subscripts.ensures.below in
    omega (arith, below, c.onto.ensures)

pub returns-in_err-rest-in-len1-up-subscripts-clause-value : goal.returns-in_err-rest-in-len1-up-subscripts-clause-value
returns-in_err-rest-in-len1-up-subscripts-clause-value t c =
    let fits : FitsSigned w64 (get_or c.args.subscripts.now 0 (pos 0)) = search rules in
    let same = to_z-of_z w64 (get_or c.args.subscripts.now 0 (pos 0)) fits in
    let e = place-err c.args.dims.now (record { lower = pos 0; extent = 0 }) _ c.in-len1-up.len_at_least refl c.args.subscripts.now _ c.in-len1-up-subscripts.len_at_least same c.in_err-rest-in-len1-up-subscripts.field-0.0 c.in-Some.ensures.0 c.in_err-rest-in-len1-up-subscripts.ensures.value in
    search (rules, e)
