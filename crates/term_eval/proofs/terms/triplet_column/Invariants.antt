use Rattle.std.proofs.Common.{◌≡◌, take}
use Rattle.ws_space.specs.Sections.{triplet_column}
use Rattle.term_eval.proofs.terms.triplet_column.Given as goal

abbrev pub invariant-loop-place : goal.invariant-loop-place
invariant-loop-place l = l.column ≡ triplet_column l.triplet (take l.place-index l.places)
