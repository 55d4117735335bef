-- Subscripts as lists: those of an element, all of a shape in array element order, and those that a triplet selects.
use Rattle.std.specs.Prelude.{ℕ, suc, Bool, if◌then◌else◌, List, [], ◌∷◌, map, filter, take, ℤ, pos, ◌+ℤ◌, ◌-ℤ◌, ◌*ℤ◌, int_lt, int_le, unsigned_abs}
use Rattle.std.specs.List.{flat_map}
use Rattle.ws_space.specs.declared.shape.Dim.{Dim}
use Rattle.ws_space.specs.declared.shape.Shape.{Shape}
use Rattle.ws_space.specs.declared.shape.Subs.{Subs}
use Rattle.ws_space.specs.declared.shape.Triplet.{Triplet}
use Rattle.ws_space.specs.Shapes.{dims, places_from}

-- the subscripts as a list
abbrev pub listed : Subs → List ℤ
listed x = take x.rank (x.s1 ∷ x.s2 ∷ x.s3 ∷ [])

-- An unused subscript is 1.
abbrev pub subs_of : List ℤ → Subs
subs_of [] = record { rank = 0; s1 = pos 1; s2 = pos 1; s3 = pos 1 }
subs_of (i ∷ []) = record { rank = 1; s1 = i; s2 = pos 1; s3 = pos 1 }
subs_of (i ∷ j ∷ []) = record { rank = 2; s1 = i; s2 = j; s3 = pos 1 }
subs_of (i ∷ j ∷ k ∷ more) = record { rank = 3; s1 = i; s2 = j; s3 = k }

-- the subscripts of a dimension, in order
abbrev pub subscripts : Dim → List ℤ
subscripts d = map (λ k. d.lower +ℤ pos k) (places_from 0 d.extent)

-- the subscripts of all elements in array element order: the first varies fastest
abbrev pub subscript_lists : List Dim → List (List ℤ)
subscript_lists [] = [] ∷ []
subscript_lists (d ∷ ds) = flat_map (λ is. map (λ i. i ∷ is) (subscripts d)) (subscript_lists ds)

abbrev pub all_subscripts : Shape → List (List ℤ)
all_subscripts s = subscript_lists (dims s)

-- going from l by s, i does not lie beyond u
abbrev pub is_up_to_end : Triplet → ℤ → Bool
is_up_to_end t i = if int_lt (pos 0) t.s then int_le i t.u else int_le t.u i

-- `l + k * s`
abbrev pub stepped : Triplet → ℕ → ℤ
stepped t k = t.l +ℤ pos k *ℤ t.s

-- The subscripts that `l:u:s` selects: l, l + s and so on, up to u. As s is not 0, they are no more than the numbers from l to u.
abbrev pub selected : Triplet → List ℤ
selected t = filter (is_up_to_end t) (map (stepped t) (places_from 0 (suc (unsigned_abs (t.u -ℤ t.l)))))
