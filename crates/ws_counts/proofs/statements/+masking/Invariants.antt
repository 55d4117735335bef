use Rattle.std.proofs.Common.{◌≡◌, drop}
use Rattle.ws_counts.specs.Lists as lists
use Rattle.ws_counts.specs.Tallies.{tallied}
use Rattle.ws_counts.proofs.statements.+masking.Given as goal

abbrev pub invariant-count_block-each : goal.invariant-count_block-each
invariant-count_block-each l = tallied l.initial.tally (lists.block_pieces l.table l.inside l.block) ≡ tallied l.tally (lists.block_pieces l.table l.inside (drop l.stmt-index l.block))

abbrev pub invariant-count_elses-each : goal.invariant-count_elses-each
invariant-count_elses-each l = tallied l.initial.tally (lists.elses_pieces l.table l.inside l.rest) ≡ tallied l.tally (lists.elses_pieces l.table l.inside (drop l.part-index l.rest))
