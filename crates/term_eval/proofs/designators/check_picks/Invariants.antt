use Rattle.std.proofs.Common.{◌≡◌, drop, take}
use Rattle.array_meaning.specs.Stage1 as stage1
use Rattle.term_eval.specs.Lists.{then_rest}
use Rattle.term_eval.proofs.designators.check_picks.Given as goal

abbrev pub invariant-loop-i : goal.invariant-loop-i
invariant-loop-i l = stage1.checked l.dims l.picks ≡ then_rest (take l.i l.picks) (stage1.checked (drop l.i l.dims) (drop l.i l.picks))
