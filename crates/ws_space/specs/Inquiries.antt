-- SIZE, LBOUND and UBOUND. A value that is no default integer is Overflow.
use Rattle.std.specs.Prelude.{ℕ, suc, ◌==◌, if◌then◌else◌, List, [], ◌∷◌, Option, Some, None, ℤ, pos}
use Rattle.ws_base.specs.Numbers.{Exact, default_half, exact}
use Rattle.ws_space.specs.declared.shape.Dim.{Dim}
use Rattle.ws_space.specs.Shapes.{extents_of, size, upper}

-- dimension k, from 1
abbrev pub dim_at : List Dim → ℕ → Dim
dim_at [] k = record { lower = pos 1; extent = 1 }
dim_at (d ∷ ds) (suc (suc k)) = dim_at ds (suc k)
dim_at (d ∷ ds) k = d

abbrev pub extent_value : Dim → Exact
extent_value d = exact default_half (pos d.extent)

-- SIZE without a dimension, or with one
abbrev pub size_value : List Dim → Option ℕ → Exact
size_value ds None = exact default_half (pos (size (extents_of ds)))
size_value ds (Some k) = extent_value (dim_at ds k)

-- a dimension of extent 0 is 1:0
abbrev pub lower_bound : Dim → ℤ
lower_bound d = if d.extent == 0 then pos 1 else d.lower

abbrev pub upper_bound : Dim → ℤ
upper_bound d = if d.extent == 0 then pos 0 else upper d

abbrev pub lbound_value : Dim → Exact
lbound_value d = exact default_half (lower_bound d)

abbrev pub ubound_value : Dim → Exact
ubound_value d = exact default_half (upper_bound d)
