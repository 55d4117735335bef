use Rattle.std.proofs.Common.{arith}
use Rattle.std.proofs.lemmas.Int.{ints}
use Rattle.ws_space.proofs.Whole.{inside}
use Rattle.ws_space.proofs.elements.offset.Goals as goal

pub returns-then-far-dim : goal.returns-then-far-dim
returns-then-far-dim c = inside c.args.dim c.args.subscript c.unsigned_abs-far.result (omega (arith, ints)) (omega arith)
