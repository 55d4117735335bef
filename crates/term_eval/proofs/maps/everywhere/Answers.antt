use Rattle.std.proofs.Common.{Ok, ap, sym, ◌∙◌, FitsSigned, w64, rules}
use Rattle.std.proofs.lemmas.Int.{to_z-of_z}
use Rattle.ws_base.specs.Outcomes.{each}
use Rattle.ws_space.specs.Maps.{everywhere_same}
use Rattle.term_eval.proofs.Made.{each_value}
use Rattle.term_eval.proofs.maps.everywhere.Goals as goal

pub returns-in_ok-same_value-in-Ok : goal.returns-in_ok-same_value-in-Ok
returns-in_ok-same_value-in-Ok c =
    let fits : FitsSigned w64 c.in-Ok.value = search rules in
    ap (λ a. each (λ _. a) c.args.places.now) c.in-Ok.is
    ∙ each_value c.in-Ok.value c.args.places.now
    ∙ ap Ok (sym (c.in_ok-same_value-in-Ok.ensures ∙ ap (λ v. everywhere_same v c.args.places.now) (to_z-of_z w64 c.in-Ok.value fits)))
