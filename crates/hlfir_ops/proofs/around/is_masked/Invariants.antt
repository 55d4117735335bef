-- What was found so far.
use Rattle.std.proofs.Common.{◌≡◌, take}
use Rattle.hlfir_ops.specs.Built.{masked_around}
use Rattle.hlfir_ops.specs.Kept.{places}
use Rattle.hlfir_ops.proofs.around.is_masked.Given as goal

abbrev pub invariant-each : goal.invariant-each
invariant-each l = l.masked ≡ masked_around (places (take l.entered-index l.around))
