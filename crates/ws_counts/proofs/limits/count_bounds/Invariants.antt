use Rattle.std.proofs.Common.{◌≡◌, drop}
use Rattle.std.specs.List.{flat_map}
use Rattle.ws_counts.specs.Limits as limits
use Rattle.ws_counts.specs.Tallies.{tallied}
use Rattle.ws_counts.proofs.limits.count_bounds.Given as goal

abbrev pub invariant-each : goal.invariant-each
invariant-each l = tallied l.initial.tally (flat_map (limits.bound_pieces l.table) l.bounds) ≡ tallied l.tally (flat_map (limits.bound_pieces l.table) (drop l.bound-index l.bounds))
