use Rattle.std.proofs.Common.{◌≡◌, ◌++◌, drop}
use Rattle.std.specs.Prelude.{nat_lt, slice_index}
use Rattle.storage_owner.specs.Layouts.{only}
use Rattle.storage_owner.proofs.variables.only_used.Given as goal

abbrev pub invariant-each : goal.invariant-each
invariant-each l = only (λ n. nat_lt 0 (slice_index l.uses n)) 0 l.kinds ≡ l.xs.items ++ only (λ n. nat_lt 0 (slice_index l.uses n)) l.k (drop l.k l.kinds)
