use Rattle.std.proofs.Common.{◌≡◌, take}
use Rattle.lower_values.specs.Operations.{values_of}
use Rattle.lower_values.proofs.appending.values_of.Given as goal

abbrev pub invariant-each : goal.invariant-each
invariant-each l = l.values ≡ values_of (take l.x-index l.xs)
