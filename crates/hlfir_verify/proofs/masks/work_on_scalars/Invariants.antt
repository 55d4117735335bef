use Rattle.std.proofs.Common.{◌≡◌, drop}
use Rattle.std.specs.List.{list_all}
use Rattle.hlfir_ops.specs.RulesStatements.{works_on_scalars}
use Rattle.rule_tests.specs.Orders.{ops_of}
use Rattle.hlfir_verify.proofs.masks.work_on_scalars.Given as goal

abbrev pub invariant-each : goal.invariant-each
invariant-each l = list_all works_on_scalars (ops_of (drop l.op-index l.order)) ≡ list_all works_on_scalars (ops_of l.order)
