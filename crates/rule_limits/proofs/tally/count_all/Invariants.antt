use Rattle.std.proofs.Common.{◌≡◌, drop}
use Rattle.rule_tests.specs.Orders.{ops_of}
use Rattle.rule_tests.specs.Seen.{seen}
use Rattle.rule_limits.specs.Tallies.{counted_all}
use Rattle.rule_limits.proofs.tally.count_all.Given as goal

abbrev pub invariant-each : goal.invariant-each
invariant-each l = counted_all (seen l.table) l.tally (ops_of (drop l.op-index l.order)) ≡ counted_all (seen l.table) l.initial.tally (ops_of l.order)
