-- A whole array is a selection of its own array.
use Rattle.std.proofs.Common.{◌≡◌, refl, Some}
use Rattle.ws_space.specs.declared.state.ArrayValue.{ArrayValue}
use Rattle.array_meaning.specs.Terms.{terms_open}
use Rattle.array_meaning.specs.Stage1.{whole_array}
use Rattle.array_meaning.specs.Stage2.{targets, array_of}

pub whole-array : (a : ArrayValue) → array_of (whole_array a) ≡ Some a
unfolding terms_open
whole-array a = refl
