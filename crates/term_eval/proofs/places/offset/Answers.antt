use Rattle.std.proofs.Common.{arith}
use Rattle.std.proofs.lemmas.Int.{ints}
use Rattle.ws_space.proofs.Whole.{inside}
use Rattle.term_eval.proofs.PlaceOf.{outside}
use Rattle.term_eval.proofs.places.offset.Goals as goal

pub returns-then-far-from : goal.returns-then-far-from
returns-then-far-from c = inside c.args.dim c.args.subscript c.unsigned_abs-far.result (omega (arith, ints)) (omega arith)

pub returns-else-far-from : goal.returns-else-far-from
returns-else-far-from c = outside c.args.dim c.args.subscript c.unsigned_abs-far.result (omega (arith, ints)) (omega arith)
