-- What the definitions of places, triplets and replacement come to.
use Rattle.std.specs.Prelude.{◌≡◌, ◌≢◌, ◌↔◌, ◌<◌, ℕ, List, length, take, Ok, Some, MatchOption, ℤ}
use Rattle.std.specs.List.{AllPairs, Contains, slice_get}
use Rattle.ws_space.specs.declared.shape.Dim.{Dim}
use Rattle.ws_space.specs.declared.shape.Triplet.{Triplet}
use Rattle.ws_space.specs.Shapes.{extents_of, size, count, place}
use Rattle.ws_space.specs.Subscripts.{subscript_lists, stepped, selected}
use Rattle.ws_space.specs.Values.{stored, first_repeat}

-- The place of subscripts is where they stand among all.
abbrev pub PlaceIsPosition : List Dim → List ℤ → ℕ → Type 0
PlaceIsPosition ds is p = length is ≡ length ds → (place ds is ≡ Ok p) ↔ (slice_get (subscript_lists ds) p ≡ Some is)

abbrev pub SizeIsLength : List Dim → Type 0
SizeIsLength ds = size (extents_of ds) ≡ length (subscript_lists ds)

-- The count is how many subscripts are selected, and the k-th of them, from 0, is `l + k * s`.
pub record CountsSelected (t : Triplet) : Type 0 where
  pub count_is : count t ≡ length (selected t)
  pub steps : (k : ℕ) → k < count t → slice_get (selected t) k ≡ Some (stepped t k)

-- A place that is no target keeps its value.
abbrev pub KeepsOthers : List ℤ → List ℕ → List ℤ → ℕ → Type 0
KeepsOthers olds targets values p = (Contains targets p → ⊥) → slice_get (stored olds targets values) p ≡ slice_get olds p

abbrev pub AreApart : List ℕ → Type 0
AreApart = AllPairs (λ t u. t ≢ u)

-- Where the targets differ, the k-th target has the k-th value.
abbrev pub ReplacesTargets : List ℤ → List ℕ → List ℤ → ℕ → ℕ → ℤ → Type 0
ReplacesTargets olds targets values k target value =
    AreApart targets → slice_get targets k ≡ Some target → slice_get values k ≡ Some value → target < length olds → slice_get (stored olds targets values) target ≡ Some value

-- the k-th target stands earlier, and those before it differ
pub record RepeatsFirst (targets : List ℕ) (k : ℕ) : Type 0 where
  pub target : ℕ
  pub earlier : ℕ
  pub is_earlier : earlier < k
  pub stands_earlier : slice_get targets earlier ≡ Some target
  pub stands_here : slice_get targets k ≡ Some target
  pub before : AreApart (take k targets)

-- None where the targets differ, else the least that repeats
abbrev pub FindsRepeat : List ℕ → Type 0
FindsRepeat targets = MatchOption (first_repeat targets) (AreApart targets) (RepeatsFirst targets)
