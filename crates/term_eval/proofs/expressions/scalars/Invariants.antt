use Rattle.std.proofs.Common.{◌≡◌, drop}
use Rattle.array_meaning.specs.Stage1 as stage1
use Rattle.term_eval.proofs.Scalars.{before}
use Rattle.term_eval.proofs.expressions.scalars.Given as goal

abbrev pub invariant-loop-t : goal.invariant-loop-t
invariant-loop-t l = stage1.scalars l.ts ≡ before l.values (stage1.scalars (drop l.t-index l.ts))
