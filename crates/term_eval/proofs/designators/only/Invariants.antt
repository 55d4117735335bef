use Rattle.std.proofs.Common.{◌≡◌, ◌++◌, drop}
use Rattle.array_meaning.specs.Stage1 as stage1
use Rattle.term_eval.proofs.designators.only.Given as goal

abbrev pub invariant-loop-pick : goal.invariant-loop-pick
invariant-loop-pick l = stage1.only l.picks ≡ l.subscripts ++ stage1.only (drop l.pick-index l.picks)
