use Rattle.std.proofs.Common.{◌≡◌, take, map}
use Rattle.array_meaning.specs.declared.term.Pick.TheVariants.{Full}
use Rattle.term_eval.proofs.designators.whole_array.Given as goal

abbrev pub invariant-loop-dim : goal.invariant-loop-dim
invariant-loop-dim l = l.picks ≡ map Full (take l.dim-index l.dim-items)
