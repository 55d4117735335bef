-- The numbers of the values that are defined.
use Rattle.std.specs.Prelude.{ℕ, ◌<◌, ◌≤◌, List, length, slice_index}
use Rattle.std.specs.List.Sorted.{IsNonDecreasing}

-- They rise, and none is past the next one.
pub record Rises (ns : List ℕ) (next : ℕ) : Type 0 where
  pub sorted : IsNonDecreasing ns
  pub below : (k : ℕ) → k < length ns → slice_index ns k ≤ next
