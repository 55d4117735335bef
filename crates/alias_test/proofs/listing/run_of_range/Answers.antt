use Rattle.std.proofs.Common.{◌<ℤ◌, pos, ◌-◌, w32, ◌∙◌, ap, arith, rules}
use Rattle.std.proofs.lemmas.Int.{ints, to_z-of_z}
use Rattle.ws_space.specs.Subscripts.{stepped}
use Rattle.alias_test.proofs.Ranges.{lists_rising, lists_none, lists_falling}
use Rattle.alias_test.proofs.listing.run_of_range.Goals as goal
use Rattle.alias_test.proofs.listing.run_of_range.Goals.{then-triplet-gt0-via-then-triplet-gt0, then-triplet-gt0-via-else-triplet-gt0+then-count-eq0}

pub returns-then-triplet-gt0 : goal.returns-then-triplet-gt0
returns-then-triplet-gt0 c =
    elim c.then-triplet-gt0.branch [
      | then-triplet-gt0-via-then-triplet-gt0 w ↦ lists_rising c.args.triplet.now _ c.requires (omega (arith, ints)) (omega (arith, ints)) c.count_of-count.ensures
      | then-triplet-gt0-via-else-triplet-gt0+then-count-eq0 w ↦ lists_none c.args.triplet.now _ c.requires c.count_of-count.ensures (omega arith)
    ]

pub returns : goal.returns
returns c =
    let below : c.args.triplet.now.s <ℤ pos 0 = omega (arith, ints) in
    lists_falling c.args.triplet.now _ below c.requires (to_z-of_z w32 c.last_of.result (search rules) ∙ (c.last_of.ensures ∙ ap (λ n. stepped c.args.triplet.now (n - 1)) c.count_of-count.ensures)) (omega (arith, ints)) c.count_of-count.ensures
