use Rattle.std.proofs.Common.{◌≡◌, drop}
use Rattle.ws_counts.specs.Lists as lists
use Rattle.ws_counts.specs.Tallies.{tallied}
use Rattle.ws_counts.proofs.statements.+stating.Given as goal

abbrev pub invariant-count_forall-each : goal.invariant-count_forall-each
invariant-count_forall-each l = tallied l.initial.tally (lists.forall_pieces l.table l.block) ≡ tallied l.tally (lists.forall_pieces l.table (drop l.stmt-index l.block))
