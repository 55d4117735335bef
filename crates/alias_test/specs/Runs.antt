-- Runs of subscripts, and where two of them meet.
use Rattle.std.specs.Prelude.{ℕ, ◌+◌, ◌*◌, ◌<◌, ◌≤◌, ◌≡◌, ◌↔◌, List, Option, Some, None, ℤ, pos, ◌+ℤ◌}
use Rattle.std.specs.Int.{◌∣◌}
use Rattle.std.specs.List.{Contains}
use Rattle.alias_test.specs.declared.run.Run.{Run}

-- ---- divisors

-- The step divides the distance and j times the other step.
abbrev pub Reaches : ℕ → ℕ → ℕ → ℕ → Type 0
Reaches step other distance j = step ∣ distance + j * other

pub record IsLeastReach (step other distance j : ℕ) : Type 0 where
  pub reaches : Reaches step other distance j
  pub least : (k : ℕ) → Reaches step other distance k → j ≤ k

-- ---- runs

-- the number of this place, counted from 0
abbrev pub stands_at : Run → ℕ → ℤ
stands_at r k = r.first +ℤ pos (k * r.step)

abbrev pub HasNumber : Run → ℤ → Type 0
HasNumber r x = (k : ℕ) × (k < r.count) × (x ≡ stands_at r k)

-- Some number is in both.
abbrev pub Meet : Run → Run → Type 0
Meet p q = (x : ℤ) × HasNumber p x × HasNumber q x

-- The subscripts are those of the run.
abbrev pub Lists : Option (List ℤ) → Run → Type 0
Lists (Some is) r = (x : ℤ) → Contains is x ↔ HasNumber r x
Lists None r = ⊥
