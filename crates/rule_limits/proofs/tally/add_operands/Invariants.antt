use Rattle.std.proofs.Common.{◌≡◌, drop}
use Rattle.rule_tests.specs.Seen.{seen}
use Rattle.rule_limits.specs.Tallies.{with_wholes}
use Rattle.rule_limits.proofs.tally.add_operands.Given as goal

abbrev pub invariant-each : goal.invariant-each
invariant-each l = with_wholes (seen l.table) l.tally (drop l.v-index l.operands) ≡ with_wholes (seen l.table) l.initial.tally l.operands
