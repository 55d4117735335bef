use Rattle.std.proofs.Common.{◌≡◌, ◌++◌, drop}
use Rattle.hlfir_ops.specs.RulesValues as values
use Rattle.rule_tests.specs.Seen.{seen}
use Rattle.rule_tests.proofs.table.+filling.Given as goal

abbrev pub invariant-add_ops-each : goal.invariant-add_ops-each
invariant-add_ops-each l = seen l.initial.table.items ++ values.values_of l.ops ≡ seen l.table.items ++ values.values_of (drop l.op-index l.ops)

abbrev pub invariant-add_regions-each : goal.invariant-add_regions-each
invariant-add_regions-each l = seen l.initial.table.items ++ values.values_in l.what 0 l.regions ≡ seen l.table.items ++ values.values_in l.what l.k (drop l.k l.regions)
