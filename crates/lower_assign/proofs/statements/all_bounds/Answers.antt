use Rattle.std.proofs.Common.{◌+◌, drop, arith}
use Rattle.ws_types.proofs.Appended.{front}
use Rattle.lower_assign.specs.Statements.{all_bounds}
use Rattle.lower_assign.proofs.BoundsListed.{bounds-none, bounds-more}
use Rattle.lower_values.proofs.Turns.{makes-next, makes-done}
use Rattle.lower_assign.proofs.statements.all_bounds.Goals as goal

pub each-preserved : goal.each-preserved
each-preserved c =
    let names = c.args.names.now in
    let bs = c.args.bounds.now in
    let i = c.each.bound-index in
    let b = c.bound-item.result in
    makes-next names (λ _. all_bounds) bs i b c.each.values c.in_ok-more.more (front bs i b c.each-test.true c.bound-item.is) c.in_ok-append.ensures c.each.invariant (bounds-more names b (drop (i + 1) bs) c.in_ok-more.ensures)

pub returns : goal.returns
returns c = makes-done c.args.names.now (λ _. all_bounds) c.args.bounds.now c.each.bound-index c.each.values (omega arith) bounds-none c.each.invariant
