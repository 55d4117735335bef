use Rattle.std.proofs.Common.{◌≡◌, ◌≤◌, ◌*◌, ◌^◌, ◌+ℤ◌, drop, unsigned_abs}
use Rattle.ws_base.specs.Numbers as numbers
use Rattle.value_ops.proofs.reductions.sum.Given as goal

abbrev pub invariant-loop-value : goal.invariant-loop-value
invariant-loop-value l = record {
  small : unsigned_abs l.sum ≤ 2 ^ 63 * l.value-index;
  same : l.sum +ℤ numbers.sum_of (drop l.value-index l.values) ≡ numbers.sum_of l.values;
}
