use Rattle.std.proofs.Common.{arith, drop, ◌+◌}
use Rattle.ws_types.proofs.Appended.{front}
use Rattle.lower_values.proofs.Turns.{makes-next, makes-done}
use Rattle.lower_constructs.specs.Modules.{triples}
use Rattle.lower_constructs.proofs.Parts.{triples-none, triples-more}
use Rattle.lower_constructs.proofs.headers.triples.Goals as goal

pub each-preserved : goal.each-preserved
each-preserved c =
    let names = c.args.names.now in
    let xs = c.args.indexes.now in
    let i = c.each.index-index in
    let x = c.index-item.result in
    makes-next names (λ _. triples) xs i x c.each.all c.in_ok-three.three (front xs i x c.each-test.true c.index-item.is) c.in_ok-append.ensures c.each.invariant
    (triples-more names x (drop (i + 1) xs) c.in_ok-three.ensures)

pub returns : goal.returns
returns c = makes-done c.args.names.now (λ _. triples) c.args.indexes.now c.each.index-index c.each.all (omega arith) triples-none c.each.invariant
