use Rattle.std.proofs.Common.{length}
use Rattle.term_eval.proofs.shapes.+size.Given as goal

abbrev pub decreases-size : goal.decreases-size
decreases-size l = length l.extents.now
