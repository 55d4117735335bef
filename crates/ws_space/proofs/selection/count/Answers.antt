use Rattle.std.proofs.Common.{◌≡◌, ◌≢◌, pos, w32, of_z, rules, sym, ap, ◌∙◌}
use Rattle.ws_space.specs.Shapes.{count}
use Rattle.ws_space.proofs.Counts.{length-selected}
use Rattle.ws_space.proofs.selection.count.Goals as goal

pub returns-clause-listed : goal.returns-clause-listed
returns-clause-listed c =
    let some : c.args.triplet.now.s ≢ pos 0 = λ e. c.if-triplet-eq0.false (ap (of_z w32) e) in
    let n : c.or_zero.result ≡ count c.args.triplet.now = search rules in
    (some, n ∙ sym (length-selected c.args.triplet.now some))
