use Rattle.std.proofs.Common.{◌≡◌, take}
use Rattle.storage_owner.specs.Layouts.{var_sizes}
use Rattle.storage_owner.proofs.sizes.var_sizes.Given as goal

abbrev pub invariant-each : goal.invariant-each
invariant-each l = l.sizes.items ≡ var_sizes (take l.kind-index l.kinds)
