use Rattle.std.proofs.Common.{◌∷◌, [], arith, drop, get_or, ◌+◌}
use Rattle.std.proofs.lemmas.List.{drop_more}
use Rattle.lower_values.specs.References.{nothing}
use Rattle.lower_values.specs.Operations.{at_positions}
use Rattle.lower_values.proofs.Positions.{at_positions-none, at_positions-more}
use Rattle.lower_values.proofs.Turns.{makes-next, makes-done}
use Rattle.lower_values.proofs.elementals.at_positions.Goals as goal

pub each-preserved : goal.each-preserved
each-preserved c = λ names.
    let xs = c.args.xs.now in
    let i = c.each.x-index in
    makes-next names (λ _. at_positions) xs i (get_or xs i nothing) c.each.ys (c.in_ok-y.y ∷ []) (drop_more xs i nothing c.each-test.true) c.in_ok-push.ensures.ok (c.each.invariant names)
    (at_positions-more names (get_or xs i nothing) (drop (i + 1) xs) (c.in_ok-y.ensures names))

pub returns : goal.returns
returns c = λ names. makes-done names (λ _. at_positions) c.args.xs.now c.each.x-index c.each.ys (omega arith) at_positions-none (c.each.invariant names)
