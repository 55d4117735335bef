use Rattle.std.proofs.Common.{◌≡◌, length}
use Rattle.ws_expr.specs.Readings.{raised}
use Rattle.ws_expr.proofs.reading.raised.Given as goal

abbrev pub invariant-bases : goal.invariant-bases
invariant-bases l = raised l.bases l.power ≡ raised l.fn.bases l.fn.exponent

abbrev pub decreases-bases : goal.decreases-bases
decreases-bases l = length l.bases
