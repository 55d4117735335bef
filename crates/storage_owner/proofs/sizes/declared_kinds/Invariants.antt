use Rattle.std.proofs.Common.{◌≡◌, ◌++◌, drop}
use Rattle.storage_owner.specs.Layouts.{declared_kinds}
use Rattle.storage_owner.proofs.sizes.declared_kinds.Given as goal

abbrev pub invariant-each : goal.invariant-each
invariant-each l = declared_kinds l.ops ≡ l.kinds.items ++ declared_kinds (drop l.op-index l.ops)
