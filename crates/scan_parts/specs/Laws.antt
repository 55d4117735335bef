-- What holds of merging.
use Rattle.std.specs.Prelude.{◌≡◌, ℕ, IsTrue, FitsSigned, List, ◌++◌, map, ℤ}
use Rattle.std.specs.Int.{w64}
use Rattle.ws_base.specs.declared.op.CallWord.{CallWord}
use Rattle.ws_base.specs.Numbers.{default_half, reduction}
use Rattle.phase_ops.specs.Partials.{unit_part, part_of, merge, adds, merged, total, is_reduction}

-- The two may be merged: a sum or a count has to fit 64 bits.
abbrev pub MayMerge : CallWord → ℤ → ℤ → Type 0
MayMerge k a b = IsTrue (adds k) → FitsSigned w64 (merge default_half k a b)

-- the partial of these values
abbrev pub partial : ℕ → CallWord → List ℤ → ℤ
partial half k xs = merged half k (map (part_of half k) xs)

-- Partials are merged in any grouping, the partial of no value changes none, and the total is the reduction of all values, or its
-- Overflow.
pub record IsMerging (half : ℕ) (k : CallWord) : Type 0 where
  pub associative : (a b c : ℤ) → merge half k (merge half k a b) c ≡ merge half k a (merge half k b c)
  pub commutative : (a b : ℤ) → merge half k a b ≡ merge half k b a
  pub unit : (xs : List ℤ) → merge half k (unit_part half k) (partial half k xs) ≡ partial half k xs
  pub joined : (xs ys : List ℤ) → partial half k (xs ++ ys) ≡ merge half k (partial half k xs) (partial half k ys)
  pub exact : (xs : List ℤ) → total half k (partial half k xs) ≡ reduction half k xs

abbrev pub MergingLaw : Type 0
MergingLaw = (half : ℕ) (k : CallWord) → IsTrue (is_reduction k) → IsMerging half k
