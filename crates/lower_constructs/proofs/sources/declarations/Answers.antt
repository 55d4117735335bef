use Rattle.std.proofs.Common.{arith, add-one, ap, ◌∙◌, drop, ◌+◌, ◌<◌, ◌≤◌, ◌≡◌, length, get_or}
use Rattle.lower_values.specs.Lowerings.{in_turn}
use Rattle.ws_types.proofs.Appended.{front}
use Rattle.lower_values.proofs.Turns.{lowers-next, lowers-done, in_turn-none, in_turn-more}
use Rattle.lower_constructs.specs.Modules.{declaration}
use Rattle.lower_constructs.proofs.sources.declarations.Goals as goal

pub each-preserved : goal.each-preserved
each-preserved c =
    let names = c.args.names.now in
    let xs = names.variables in
    let i = c.each.variable-index in
    let x = c.variable-item.result in
    let low : i < length xs = omega (arith, ap (λ l. length l) c.as_slice-variable-items.ensures) in
    let is : x ≡ get_or xs i x = c.variable-item.is ∙ ap (λ l. get_or l i x) c.as_slice-variable-items.ensures in
    lowers-next names (in_turn declaration) xs i x (front xs i x low is) c.each.invariant
    (in_turn-more names declaration i (i + 1) x (drop (i + 1) xs) (add-one i) (c.in_ok-declaration.ensures names i))

pub returns : goal.returns
returns c =
    let xs = c.args.names.now.variables in
    let all : length xs ≤ c.each.variable-index = omega (arith, ap (λ l. length l) c.as_slice-variable-items.ensures) in
    lowers-done c.args.names.now (in_turn declaration) xs c.each.variable-index all (in_turn-none declaration c.each.variable-index) c.each.invariant
