use Rattle.std.proofs.Common.{◌≡◌, take}
use Rattle.storage_owner.specs.Layouts.{box_sizes}
use Rattle.storage_owner.proofs.sizes.box_sizes.Given as goal

abbrev pub invariant-each : goal.invariant-each
invariant-each l = l.sizes.items ≡ box_sizes (take l.kind-index l.kinds)
