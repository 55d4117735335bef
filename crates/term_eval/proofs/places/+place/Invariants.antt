use Rattle.std.proofs.Common.{length}
use Rattle.term_eval.proofs.places.+place.Given as goal

abbrev pub decreases-place : goal.decreases-place
decreases-place l = length l.dims.now
