use Rattle.ws_space.proofs.Places.{slice_get-place, place-slice_get}
use Rattle.ws_space.proofs.laws.a_place_is_a_position.Goals as goal

pub returns : goal.returns
returns c = λ ds is p same. (slice_get-place ds is p same, place-slice_get ds is p)
