use Rattle.std.proofs.Common.{◌≡◌, ◌++◌, map, drop}
use Rattle.alias_test.specs.Givers.{ops_at}
use Rattle.alias_test.proofs.table.add_names.Given as goal

abbrev pub invariant-each : goal.invariant-each
invariant-each l = ops_at l.initial.table.items ++ map (λ name. l.op) l.names ≡ ops_at l.table.items ++ map (λ name. l.op) (drop l._name-index l.names)
