use Rattle.std.proofs.Common.{◌≡◌, take}
use Rattle.ws_space.specs.Sections.{beyond}
use Rattle.term_eval.proofs.terms.beyond.Given as goal

abbrev pub invariant-loop-place : goal.invariant-loop-place
invariant-loop-place l = l.made ≡ beyond l.extent (take l.place-index l.places)
