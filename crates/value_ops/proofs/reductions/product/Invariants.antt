use Rattle.std.proofs.Common.{◌≡◌, ◌≤◌, ◌*ℤ◌, drop, unsigned_abs}
use Rattle.ws_base.specs.Numbers as numbers
use Rattle.value_ops.proofs.reductions.product.Given as goal

abbrev pub invariant-loop-value : goal.invariant-loop-value
invariant-loop-value l = record {
  small : unsigned_abs l.product ≤ 2147483649;
  same : numbers.exact numbers.default_half (l.product *ℤ numbers.product_of (drop l.value-index l.values)) ≡ numbers.exact numbers.default_half (numbers.product_of l.values);
}
