use Rattle.std.proofs.Common.{◌≡◌, drop}
use Rattle.std.specs.List.{list_all}
use Rattle.ws_base.specs.Numbers.{is_true}
use Rattle.value_ops.proofs.reductions.is_all_true.Given as goal

abbrev pub invariant-loop-value : goal.invariant-loop-value
invariant-loop-value l = list_all is_true (drop l.value-index l.values) ≡ list_all is_true l.values
