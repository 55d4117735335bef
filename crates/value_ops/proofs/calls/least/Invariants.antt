use Rattle.std.proofs.Common.{◌≡◌, drop}
use Rattle.ws_base.specs.Numbers as numbers
use Rattle.value_ops.proofs.calls.least.Given as goal

abbrev pub invariant-loop-value : goal.invariant-loop-value
invariant-loop-value l = numbers.least l.least (drop l.value-index l.more) ≡ numbers.least l.first l.more
