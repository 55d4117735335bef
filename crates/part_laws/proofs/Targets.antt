-- The targets of a whole array are the places themselves.
use Rattle.std.proofs.Common.{◌≡◌, subst, ℕ, ◌==◌, false, List, [], ◌∷◌, Ok}
use Rattle.ws_space.specs.declared.state.ArrayValue.{ArrayValue}
use Rattle.ws_space.specs.Shapes.{dims, extents_of}
use Rattle.array_meaning.specs.Stage1.{whole_array}
use Rattle.array_meaning.specs.Stage2.{operands, targets}
use Rattle.value_laws.specs.Standing.{AreIn}
use Rattle.value_laws.proofs.Names.{whole_operands, some_take, in_shape}
use Rattle.value_laws.proofs.Wholes as wholes

pub whole-targets : (a : ArrayValue) → (a.shape.rank == 0) ≡ false → (at : List ℕ) → AreIn at (operands (whole_array a)) → targets (whole_array a) at ≡ Ok at
whole-targets a ranked at is =
    let some = some_take a.shape.rank a.shape.d1 (a.shape.d2 ∷ a.shape.d3 ∷ []) ranked in
    wholes.whole-targets a at (in_shape at (extents_of (dims a.shape)) some (subst (AreIn at) (whole_operands a) is))
