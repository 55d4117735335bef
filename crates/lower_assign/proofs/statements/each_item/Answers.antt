use Rattle.std.proofs.Common.{ℕ, nat_lt, ◌+◌, drop, arith, add-one}
use Rattle.std.specs.Prelude.{⊤}
use Rattle.ws_types.proofs.Appended.{front}
use Rattle.lower_values.specs.Lowerings.{Lowering, in_turn}
use Rattle.lower_values.proofs.Turns.{lowers-next, lowers-done, in_turn-none, in_turn-more}
use Rattle.lower_assign.proofs.statements.each_item.Goals as goal

pub each-preserved : goal.each-preserved
each-preserved g c =
    let names = c.args.names.now in
    let xs = c.args.items.now in
    let i = c.each.i in
    let x = c.index-items-i.result in
    let f : ℕ → _ → Lowering ⊤ = λ k. g.T.Item.lowering c.args.line (nat_lt 0 k) in
    lowers-next names (in_turn f) xs i x (front xs i x c.each-test.true c.index-items-i.is) c.each.invariant (in_turn-more names f i (i + 1) x (drop (i + 1) xs) (add-one i) c.in_ok-lower.ensures)

pub returns : goal.returns
returns g c =
    let f : ℕ → _ → Lowering ⊤ = λ k. g.T.Item.lowering c.args.line (nat_lt 0 k) in
    lowers-done c.args.names.now (in_turn f) c.args.items.now c.each.i (omega arith) (in_turn-none f c.each.i) c.each.invariant
