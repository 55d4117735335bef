use Rattle.std.proofs.Common.{◌≡◌, drop}
use Rattle.ws_counts.specs.Pieces as pieces
use Rattle.ws_counts.specs.Tallies.{tallied}
use Rattle.ws_counts.proofs.statements.count_indexes.Given as goal

abbrev pub invariant-each : goal.invariant-each
invariant-each l = tallied l.initial.tally (pieces.indexes_pieces l.table l.indexes) ≡ tallied l.tally (pieces.indexes_pieces l.table (drop l.index-index l.indexes))
