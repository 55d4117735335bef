use Rattle.std.proofs.Common.{take}
use Rattle.std.specs.List.{flat_map}
use Rattle.hlfir_ops.specs.Rules.{operand_numbers}
use Rattle.rule_tests.specs.Orders.{ops_of}
use Rattle.rule_tests.specs.Uses.{AddsUses}
use Rattle.rule_tests.proofs.table.add_uses.Given as goal

abbrev pub invariant-each : goal.invariant-each
invariant-each l = AddsUses l.initial.uses l.uses (flat_map operand_numbers (ops_of (take l.op-index l.order)))
