-- What was found so far.
use Rattle.std.proofs.Common.{◌≡◌, take}
use Rattle.hlfir_ops.specs.Built.{index_around}
use Rattle.hlfir_ops.specs.Kept.{places}
use Rattle.hlfir_ops.proofs.around.index_of.Given as goal

abbrev pub invariant-each : goal.invariant-each
invariant-each l = l.found ≡ index_around l.name (places (take l.entered-index l.around))
