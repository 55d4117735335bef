use Rattle.std.proofs.Common.{◌≡◌, ◌++◌, drop}
use Rattle.hlfir_ops.specs.declared.op.Op.{out-Op}
use Rattle.alias_test.specs.Givers.{givers_of, givers_in, ops_at}
use Rattle.alias_test.proofs.table.+giving.Given as goal

abbrev pub invariant-add_ops-each : goal.invariant-add_ops-each
invariant-add_ops-each l = ops_at l.initial.table.items ++ givers_of l.ops ≡ ops_at l.table.items ++ givers_of (drop l.op-index l.ops)

abbrev pub invariant-add_regions-each : goal.invariant-add_regions-each
invariant-add_regions-each l = ops_at l.initial.table.items ++ givers_in l.op (out-Op l.op).what 0 l.regions ≡ ops_at l.table.items ++ givers_in l.op (out-Op l.op).what l.k (drop l.k l.regions)
