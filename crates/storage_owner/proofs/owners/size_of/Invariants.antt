use Rattle.std.proofs.Common.{◌≡◌, ◌≤◌, ◌+◌, drop}
use Rattle.hlfir_ops.specs.RulesLimits.{size_of}
use Rattle.rule_tests.specs.Orders.{ops_of}
use Rattle.storage_owner.proofs.owners.size_of.Given as goal

abbrev pub invariant-each : goal.invariant-each
invariant-each l = (l.size ≤ 131072) × (l.size + size_of (ops_of (drop l.op-index l.order)) ≡ size_of (ops_of l.order))
