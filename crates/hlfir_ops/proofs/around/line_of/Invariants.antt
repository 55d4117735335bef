-- What was found so far.
use Rattle.std.proofs.Common.{◌≡◌, take}
use Rattle.hlfir_ops.specs.Built.{line_around}
use Rattle.hlfir_ops.specs.Kept.{places}
use Rattle.hlfir_ops.proofs.around.line_of.Given as goal

abbrev pub invariant-each : goal.invariant-each
invariant-each l = l.line ≡ line_around (places (take l.entered-index l.around))
