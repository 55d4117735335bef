use Rattle.std.proofs.Common.{◌≡◌, drop}
use Rattle.rule_tests.specs.Seen.{seen}
use Rattle.rule_limits.specs.Tallies.{summed}
use Rattle.rule_limits.proofs.tally.sum_of.Given as goal

abbrev pub invariant-each : goal.invariant-each
invariant-each l = summed (seen l.table) l.sum (drop l.op-index l.ops) ≡ summed (seen l.table) l.initial.sum l.ops
