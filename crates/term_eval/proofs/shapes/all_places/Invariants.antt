use Rattle.std.proofs.Common.{◌≡◌}
use Rattle.ws_space.specs.Shapes.{places_from}
use Rattle.term_eval.proofs.shapes.all_places.Given as goal

abbrev pub invariant-loop-place : goal.invariant-loop-place
invariant-loop-place l = l.places ≡ places_from 0 l.place
