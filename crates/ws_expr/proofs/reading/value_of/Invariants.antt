use Rattle.std.proofs.Common.{◌≡◌, ◌≤◌, drop}
use Rattle.ws_expr.specs.Readings.{value_from}
use Rattle.ws_expr.proofs.reading.value_of.Given as goal

abbrev pub invariant-loop-d : goal.invariant-loop-d
invariant-loop-d l = record {
  low : l.value ≤ 2147483648;
  same : value_from l.value (drop l.d-index l.digits) ≡ value_from 0 l.digits;
}
