use Rattle.std.proofs.Common.{◌≡◌, take, map}
use Rattle.ws_space.specs.Values.{value_at}
use Rattle.term_eval.proofs.places.listed.Given as goal

abbrev pub invariant-loop-place : goal.invariant-loop-place
invariant-loop-place l = l.made ≡ map (value_at l.values) (take l.place-index l.places)
