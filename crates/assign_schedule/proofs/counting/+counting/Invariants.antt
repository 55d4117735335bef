use Rattle.std.proofs.Common.{◌≡◌, ◌+◌, length, drop}
use Rattle.hlfir_ops.specs.Numbers.{order_of, order_in}
use Rattle.assign_schedule.proofs.counting.+counting.Given as goal

abbrev pub invariant-count_ops-each : goal.invariant-count_ops-each
invariant-count_ops-each l = l.count + length (order_of (drop l.op-index l.ops)) ≡ length (order_of l.ops)

abbrev pub invariant-count_regions-each : goal.invariant-count_regions-each
invariant-count_regions-each l = l.count + length (order_in (drop l.region-index l.regions)) ≡ length (order_in l.regions)
