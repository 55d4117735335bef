use Rattle.std.proofs.Common.{◌≡◌, ◌++◌, map, drop}
use Rattle.hlfir_ops.specs.RulesValues.{value_of_name}
use Rattle.rule_tests.specs.Seen.{seen}
use Rattle.rule_tests.proofs.table.add_names.Given as goal

abbrev pub invariant-each : goal.invariant-each
invariant-each l = seen l.initial.table.items ++ map value_of_name l.names ≡ seen l.table.items ++ map value_of_name (drop l._name-index l.names)
