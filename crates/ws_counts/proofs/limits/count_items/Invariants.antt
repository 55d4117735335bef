use Rattle.std.proofs.Common.{◌≡◌, drop}
use Rattle.ws_counts.specs.Limits as limits
use Rattle.ws_counts.specs.Tallies.{tallied}
use Rattle.ws_counts.proofs.limits.count_items.Given as goal

abbrev pub invariant-each : goal.invariant-each
invariant-each l = tallied l.initial.tally (limits.read_pieces l.table l.es) ≡ tallied l.tally (limits.read_pieces l.table (drop l.e-index l.es))
