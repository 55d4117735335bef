use Rattle.std.proofs.Common.{◌≡◌, ◌≤◌, drop}
use Rattle.list_io.specs.Items as items
use Rattle.list_io.specs.Spelled.{up_to_limit}
use Rattle.list_io.proofs.reading.digits_value.Given as goal

abbrev pub invariant-loop-byte : goal.invariant-loop-byte
invariant-loop-byte l = record {
  small : l.value ≤ 2147483648;
  same : up_to_limit (items.digits_value l.value (drop l.byte-index l.digits)) ≡ up_to_limit (items.digits_value 0 l.digits);
}
