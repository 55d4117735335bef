-- What a designator selects: its shape, the subscripts of its elements, and what is looked at before any element.
use Rattle.std.specs.Prelude.{ℕ, List, [], ◌∷◌, map, Ok, ℤ}
use Rattle.ws_base.specs.Outcomes.{Staged, ◌>>=◌}
use Rattle.ws_space.specs.declared.shape.Dim.{Dim}
use Rattle.ws_space.specs.Shapes.{Extents, count}
use Rattle.ws_space.specs.Values.{value_at}
use Rattle.ws_space.specs.Maps.{everywhere_same}
use Rattle.ws_space.specs.Sections.{here, beyond, triplet_column, elements_at, checked_subscript, checked_triplet}
use Rattle.hlfir_meaning.specs.Environments.{Selection, complete, one, range, listed, through}

-- ---- shapes

-- a scalar is no array operand
abbrev pub array_operand : Extents → List Extents
array_operand [] = []
array_operand (n ∷ ns) = (n ∷ ns) ∷ []

-- how many subscripts a vector gives
abbrev pub first_extent : Extents → ℕ
first_extent [] = 1
first_extent (n ∷ ns) = n

abbrev pub extents : Selection → Extents
extents complete = []
extents (one i s) = extents s
extents (range t s) = count t ∷ extents s
extents (listed n xs s) = n ∷ extents s
extents (through a inner s) = first_extent (extents inner) ∷ extents s

-- ---- the subscripts at these places of the selection's shape, dimension by dimension

-- A section that gives subscripts is evaluated here, at the places that need them.
abbrev pub columns : Selection → List ℕ → Staged (List (List ℤ))
columns complete at = Ok []
columns (one i s) at = do
  rest ← columns s at
  Ok (everywhere_same i at ∷ rest)
columns (range t s) at = do
  rest ← columns s (beyond (count t) at)
  Ok (triplet_column t at ∷ rest)
columns (listed n xs s) at = do
  rest ← columns s (beyond n at)
  Ok (map (value_at xs) (here n at) ∷ rest)
columns (through a inner s) at = do
  subscripts ← columns inner (here (first_extent (extents inner)) at)
  first ← elements_at a (here (first_extent (extents inner)) at) subscripts
  rest ← columns s (beyond (first_extent (extents inner)) at)
  Ok (first ∷ rest)

-- ---- what is looked at before any element

-- zero strides and bounds, dimension by dimension; the subscripts of a vector are looked at in stage 2
abbrev pub checked : List Dim → Selection → Staged Selection
checked (d ∷ ds) (one i s) = do
  j ← checked_subscript d i
  rest ← checked ds s
  Ok (one j rest)
checked (d ∷ ds) (range t s) = do
  u ← checked_triplet d t
  rest ← checked ds s
  Ok (range u rest)
checked (d ∷ ds) (listed n xs s) = do
  rest ← checked ds s
  Ok (listed n xs rest)
checked (d ∷ ds) (through a inner s) = do
  rest ← checked ds s
  Ok (through a inner rest)
checked _ _ = Ok complete

-- the subscripts of an element
abbrev pub only : Selection → List ℤ
only (one i s) = i ∷ only s
only _ = []
