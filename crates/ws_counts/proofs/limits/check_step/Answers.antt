use Rattle.std.proofs.Common.{◌∙◌, ap, sym, [], ◌∷◌, ◌++◌}
use Rattle.ws_counts.specs.declared.tally.Piece.TheVariants.{Assigned}
use Rattle.ws_counts.specs.Counts.{steps_from}
use Rattle.ws_counts.specs.Tallies.{nothing, tallied}
use Rattle.ws_counts.proofs.Tallied.{tallied-append}
use Rattle.ws_counts.proofs.limits.check_step.Goals as goal

pub returns : goal.returns
returns c ps e = c.check_total.ensures (steps_from [] (ps ++ Assigned ∷ [])) (c.finish.ensures (ps ++ Assigned ∷ []) (c.count.ensures ∙ ap (λ k. tallied k (Assigned ∷ [])) e ∙ sym (tallied-append nothing ps (Assigned ∷ []))))
