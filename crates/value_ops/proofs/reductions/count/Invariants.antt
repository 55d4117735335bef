use Rattle.std.proofs.Common.{◌≡◌, ◌≤◌, ◌+◌, drop}
use Rattle.ws_base.specs.Numbers as numbers
use Rattle.value_ops.proofs.reductions.count.Given as goal

abbrev pub invariant-loop-value : goal.invariant-loop-value
invariant-loop-value l = record {
  within : l.count ≤ l.value-index;
  same : l.count + numbers.count_of (drop l.value-index l.values) ≡ numbers.count_of l.values;
}
