use Rattle.std.proofs.Common.{◌≡◌, drop}
use Rattle.array_meaning.specs.Stage1 as stage1
use Rattle.term_eval.proofs.names.constant_of.Given as goal

abbrev pub invariant-loop-constant : goal.invariant-loop-constant
invariant-loop-constant l = stage1.constant_of (drop l.constant-index l.constants) l.name ≡ stage1.constant_of l.constants l.name
