use Rattle.std.proofs.Common.{◌≡◌, drop}
use Rattle.std.specs.List.{list_all}
use Rattle.hlfir_ops.specs.RulesStatements.{is_controlled}
use Rattle.rule_tests.specs.Orders.{ops_of}
use Rattle.rule_tests.specs.Seen.{seen}
use Rattle.hlfir_verify.proofs.masks.are_controlled.Given as goal

abbrev pub invariant-each : goal.invariant-each
invariant-each l = list_all (is_controlled (seen l.table) l.n) (ops_of (drop l.op-index l.order)) ≡ list_all (is_controlled (seen l.table) l.n) (ops_of l.order)
