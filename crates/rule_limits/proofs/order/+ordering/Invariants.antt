use Rattle.std.proofs.Common.{◌≡◌, ◌++◌, drop}
use Rattle.hlfir_ops.specs.Numbers.{order_in, order_of}
use Rattle.rule_tests.specs.Orders.{ops_of}
use Rattle.rule_limits.proofs.order.+ordering.Given as goal

abbrev pub invariant-add_ops-each : goal.invariant-add_ops-each
invariant-add_ops-each l = ops_of l.initial.order.items ++ order_of l.ops ≡ ops_of l.order.items ++ order_of (drop l.op-index l.ops)

abbrev pub invariant-add_regions-each : goal.invariant-add_regions-each
invariant-add_regions-each l = ops_of l.initial.order.items ++ order_in l.regions ≡ ops_of l.order.items ++ order_in (drop l.region-index l.regions)
