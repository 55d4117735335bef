-- Arrays in array element order: shapes, places and triplets.
use Rattle.std.specs.Prelude.{ℕ, zero, suc, ◌+◌, ◌*◌, ◌==◌, Bool, true, false, ◌&&◌, if◌then◌else◌, List, [], ◌∷◌, map, take, Result, Ok, Err, ℤ, pos, negsuc, ◌+ℤ◌, ◌-ℤ◌, int_le, int_div}
use Rattle.ws_base.specs.declared.fault.FaultName.{FaultName}
use Rattle.ws_base.specs.declared.fault.FaultName.TheVariants.{Bounds, Shape as Shape'}
use Rattle.ws_base.specs.Outcomes.{◌>>=◌, Staged, trouble}
use Rattle.ws_space.specs.declared.shape.Dim.{Dim}
use Rattle.ws_space.specs.declared.shape.Shape.{Shape}
use Rattle.ws_space.specs.declared.shape.Triplet.{Triplet}

-- the extent in each dimension
abbrev pub Extents : Type 0
Extents = List ℕ

abbrev pub dims : Shape → List Dim
dims s = take s.rank (s.d1 ∷ s.d2 ∷ s.d3 ∷ [])

abbrev pub unused : Dim
unused = record { lower = pos 1; extent = 1 }

abbrev pub shape_of : List Dim → Shape
shape_of [] = record { rank = 0; d1 = unused; d2 = unused; d3 = unused }
shape_of (a ∷ []) = record { rank = 1; d1 = a; d2 = unused; d3 = unused }
shape_of (a ∷ b ∷ []) = record { rank = 2; d1 = a; d2 = b; d3 = unused }
shape_of (a ∷ b ∷ c ∷ more) = record { rank = 3; d1 = a; d2 = b; d3 = c }

abbrev pub extents_of : List Dim → Extents
extents_of = map (λ d. d.extent)

abbrev pub size : Extents → ℕ
size [] = 1
size (n ∷ ns) = n * size ns

abbrev pub upper : Dim → ℤ
upper d = d.lower +ℤ pos d.extent -ℤ pos 1

abbrev pub same_extents : Extents → Extents → Bool
same_extents [] [] = true
same_extents (m ∷ ms) (n ∷ ns) = m == n && same_extents ms ns
same_extents _ _ = false

-- the one shape of all array operands, and [] where there is none
abbrev pub agreed : List Extents → Staged Extents
agreed [] = Ok []
agreed (e ∷ []) = Ok e
agreed (e ∷ f ∷ more) = if same_extents e f then agreed (f ∷ more) else trouble Shape'

-- z, or 0 where it is below 0
abbrev pub natural : ℤ → ℕ
natural (pos n) = n
natural (negsuc n) = 0

-- `l:u`
abbrev pub declared_dim : ℤ → ℤ → Dim
declared_dim l u = record { lower = l; extent = natural (u -ℤ l +ℤ pos 1) }

-- how many subscripts `l:u:s` selects; its stride is not 0
abbrev pub count : Triplet → ℕ
count t = natural (int_div (t.u -ℤ t.l +ℤ t.s) t.s)

abbrev pub within : Dim → ℤ → Bool
within d i = int_le d.lower i && int_le i (upper d)

abbrev pub distance : ℤ → ℤ → ℕ
distance from to = natural (to -ℤ from)

-- the place of an element in array element order, from 0
abbrev pub place : List Dim → List ℤ → Result ℕ FaultName
place [] is = Ok 0
place (d ∷ ds) [] = Err Bounds
place (d ∷ ds) (i ∷ is) = if within d i then place ds is >>= (λ p. Ok (distance d.lower i + d.extent * p)) else Err Bounds

-- the places from k on
abbrev pub places_from : ℕ → ℕ → List ℕ
places_from k zero = []
places_from k (suc n) = k ∷ places_from (suc k) n

abbrev pub all_places : Extents → List ℕ
all_places e = places_from 0 (size e)
