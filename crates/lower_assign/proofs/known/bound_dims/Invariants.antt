use Rattle.std.proofs.Common.{◌≡◌, map, take}
use Rattle.lower_assign.specs.Known.{bound_dim}
use Rattle.lower_assign.proofs.known.bound_dims.Given as goal

abbrev pub invariant-each : goal.invariant-each
invariant-each l = l.dims ≡ map (bound_dim l.constants) (take l.bound-index l.bounds)
