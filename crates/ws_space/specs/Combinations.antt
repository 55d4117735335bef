-- The combinations of the indexes of a FORALL.
use Rattle.std.specs.Prelude.{ℕ, ◌/◌, ◌%◌, List, [], ◌∷◌, map, ℤ}
use Rattle.ws_space.specs.declared.shape.Triplet.{Triplet}
use Rattle.ws_space.specs.Shapes.{Extents, count}
use Rattle.ws_space.specs.Subscripts.{stepped}

-- how many values each index has
abbrev pub lengths : List Triplet → Extents
lengths = map (λ t. count t)

-- the indexes at a place, of which the first varies fastest
abbrev pub indexes_at : List Triplet → ℕ → List ℤ
indexes_at [] p = []
indexes_at (t ∷ ts) p = stepped t (p % count t) ∷ indexes_at ts (p / count t)
