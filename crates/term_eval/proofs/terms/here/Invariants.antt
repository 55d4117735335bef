use Rattle.std.proofs.Common.{◌≡◌, take}
use Rattle.ws_space.specs.Sections.{here}
use Rattle.term_eval.proofs.terms.here.Given as goal

abbrev pub invariant-loop-place : goal.invariant-loop-place
invariant-loop-place l = l.made ≡ here l.extent (take l.place-index l.places)
