use Rattle.std.proofs.Common.{◌≡◌, take, map}
use Rattle.array_meaning.specs.Stage1.{value_of}
use Rattle.term_eval.proofs.expressions.values_of.Given as goal

abbrev pub invariant-loop-t : goal.invariant-loop-t
invariant-loop-t l = l.values ≡ map value_of (take l.t-index l.ts)
