use Rattle.std.proofs.Common.{◌≡◌, ◌++◌, take, drop}
use Rattle.array_meaning.specs.Stage1.{picked}
use Rattle.term_eval.specs.Lists as lists
use Rattle.term_eval.proofs.operand_shapes.+shaping.Given as goal

abbrev pub invariant-all_operands-each : goal.invariant-all_operands-each
invariant-all_operands-each l = l.shapes ≡ lists.all_operands (take l.t-index l.ts)

abbrev pub invariant-extents-each : goal.invariant-extents-each
invariant-extents-each l = picked l.picks ≡ l.extents ++ picked (drop l.pick-index l.picks)
