use Rattle.std.proofs.Common.{◌≡◌, drop}
use Rattle.ws_base.specs.Numbers as numbers
use Rattle.value_ops.proofs.calls.greatest.Given as goal

abbrev pub invariant-loop-value : goal.invariant-loop-value
invariant-loop-value l = numbers.greatest l.greatest (drop l.value-index l.more) ≡ numbers.greatest l.first l.more
