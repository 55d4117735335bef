-- How often each value is used.
use Rattle.std.specs.Prelude.{◌≡◌, ℕ, ◌+◌, ◌<◌, ◌==◌, min, List, length, slice_index, count_by}

-- The table has the number of uses of each value, where 2 or more stand for 2 or more.
abbrev pub AreUses : List ℕ → List ℕ → Type 0
AreUses uses used = (n : ℕ) → n < length uses → min 2 (slice_index uses n) ≡ min 2 (count_by (λ m. m == n) used)

-- The new table has these uses more.
pub record AddsUses (old new used : List ℕ) : Type 0 where
  pub same : length new ≡ length old
  pub more : (n : ℕ) → n < length old → min 2 (slice_index new n) ≡ min 2 (slice_index old n + count_by (λ m. m == n) used)
