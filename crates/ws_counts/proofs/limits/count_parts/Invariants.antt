use Rattle.std.proofs.Common.{◌≡◌, drop}
use Rattle.ws_counts.specs.Limits as limits
use Rattle.ws_counts.specs.Tallies.{tallied}
use Rattle.ws_counts.proofs.limits.count_parts.Given as goal

abbrev pub invariant-each : goal.invariant-each
invariant-each l = tallied l.initial.tally (limits.allocate_pieces l.table l.parts) ≡ tallied l.tally (limits.allocate_pieces l.table (drop l.part-index l.parts))
