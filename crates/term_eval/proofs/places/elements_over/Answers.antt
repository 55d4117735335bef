use Rattle.std.proofs.Common.{ap, sym, subst, ◌∙◌, map, Ok, rules}
use Rattle.ws_base.specs.Outcomes.{◌>>=◌, each, rows}
use Rattle.ws_space.specs.Values.{state_of, value_at}
use Rattle.array_meaning.specs.Forall.{place_in}
use Rattle.term_eval.specs.Lists.{values_in}
use Rattle.term_eval.specs.Made.{Stops}
use Rattle.term_eval.proofs.TermValues.{stops_first}
use Rattle.term_eval.proofs.Variables.{elements_from}
use Rattle.term_eval.proofs.places.elements_over.Goals as goal

pub returns-in_err-targets : goal.returns-in_err-targets
returns-in_err-targets c =
    let s = state_of c.args.vars.now c.args.name.now in
    let xs = rows c.args.places.now c.args.columns.now in
    let h = subst (Stops c.in_err-targets.field-0.0) (sym (elements_from s xs)) (stops_first c.in_err-targets.field-0.0 (each (place_in s) xs) (λ ps. Ok (map (value_at (values_in s)) ps)) c.in_err-targets.ensures) in
    search (rules, h)

pub returns : goal.returns
returns c =
    let s = state_of c.args.vars.now c.args.name.now in
    elements_from s (rows c.args.places.now c.args.columns.now)
    ∙ ap (λ r. r >>= (λ ps. Ok (map (value_at (values_in s)) ps))) c.in_ok-targets.ensures
    ∙ ap Ok (sym (c.in_ok-elements_of.ensures ∙ ap (map (value_at (values_in s))) c.as_slice.ensures))
