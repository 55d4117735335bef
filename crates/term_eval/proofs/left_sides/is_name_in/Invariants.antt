use Rattle.std.proofs.Common.{◌≡◌, drop}
use Rattle.array_meaning.specs.Assign as assign
use Rattle.term_eval.proofs.left_sides.is_name_in.Given as goal

abbrev pub invariant-loop-other : goal.invariant-loop-other
invariant-loop-other l = assign.is_name_in (drop l.other-index l.names) l.name ≡ assign.is_name_in l.names l.name
