use Rattle.std.proofs.Common.{◌≡◌, drop}
use Rattle.ws_counts.specs.Lists as lists
use Rattle.ws_counts.specs.Tallies.{tallied}
use Rattle.ws_counts.proofs.expressions.+counting.Given as goal

abbrev pub invariant-count_all-each : goal.invariant-count_all-each
invariant-count_all-each l = tallied l.initial.tally (lists.all_pieces l.table l.inside l.mask l.es) ≡ tallied l.tally (lists.all_pieces l.table l.inside l.mask (drop l.e-index l.es))

abbrev pub invariant-count_subs-each : goal.invariant-count_subs-each
invariant-count_subs-each l = tallied l.initial.tally (lists.subs_pieces l.table l.inside l.mask l.subs) ≡ tallied l.tally (lists.subs_pieces l.table l.inside l.mask (drop l.sub-index l.subs))
