use Rattle.std.proofs.Common.{◌≡◌, ◌+◌, ◌++◌, ◌∷◌, [], ap, sym, ◌∙◌, add-one, arith}
use Rattle.ws_space.specs.Shapes.{places_from}
use Rattle.term_eval.proofs.Elements.{places_from-more}
use Rattle.term_eval.proofs.shapes.all_places.Goals as goal

pub loop-place-preserved : goal.loop-place-preserved
loop-place-preserved c =
    let p = c.loop-place.place in
    let e = c.loop-place.invariant in
    let more : places_from 0 (p + 1) ≡ places_from 0 p ++ p ∷ [] = ap (places_from 0) (add-one p) ∙ places_from-more 0 p ∙ ap (λ k. places_from 0 p ++ k ∷ []) (omega arith) in
    c.in_ok-push.ensures.ok ∙ ap (λ l. l ++ p ∷ []) e ∙ sym more
