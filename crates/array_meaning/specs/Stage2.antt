-- Stage 2: each operation of rank above 0 as one map over all active places, operands before operators.
use Rattle.std.specs.Prelude.{ℕ, List, [], ◌∷◌, ◌++◌, map, length, Option, Some, None, Ok, ℤ}
use Rattle.ws_base.specs.Outcomes.{Staged, ◌>>=◌}
use Rattle.ws_space.specs.declared.state.ArrayValue.{ArrayValue}
use Rattle.ws_space.specs.Shapes.{Extents, count, all_places, agreed}
use Rattle.ws_space.specs.Values.{value_at}
use Rattle.ws_space.specs.Faults.{over_all_places}
use Rattle.ws_space.specs.Maps.{everywhere_same, unary_map, binary_map, call_map}
use Rattle.ws_space.specs.Sections.{here, beyond, triplet_column, full_column, elements_at, places_at}
use Rattle.array_meaning.specs.declared.term.Term.{Term}
use Rattle.array_meaning.specs.declared.term.Term.TheVariants.{Scalar, Listed, Section', Call'}
use Rattle.array_meaning.specs.declared.term.Pick.{Pick}
use Rattle.array_meaning.specs.declared.term.Pick.TheVariants.{One, Full, Range, Vector}
use Rattle.array_meaning.specs.Terms.{Terms, end_terms, more_terms, Picks, end_picks, more_picks, unary_term, binary_term}

-- ---- shapes

-- a scalar is no array operand
abbrev pub array_operand : Extents → List Extents
array_operand [] = []
array_operand (n ∷ ns) = (n ∷ ns) ∷ []

-- how many subscripts a vector gives: the extent of its array operands
abbrev pub first_extent : Extents → ℕ
first_extent [] = 1
first_extent (n ∷ ns) = n

abbrev pub vector_extent : List Extents → ℕ
vector_extent [] = 1
vector_extent (e ∷ es) = first_extent e

abbrev mutual
  -- the shape of each array operand, but for those in subscripts
  pub operands : Term → List Extents
  operands (Scalar v) = []
  operands (Listed xs) = (length xs ∷ []) ∷ []
  operands (Section' a _ ps) = array_operand (extents ps)
  operands (unary_term op t) = operands t
  operands (binary_term op t u) = operands t ++ operands u
  operands (Call' word _ ts) = all_operands ts

  pub all_operands : {m : _} → Terms m → List Extents
  all_operands end_terms = []
  all_operands (more_terms t ts) = operands t ++ all_operands ts

  -- the extents of a section
  pub extents : {m : _} → Picks m → Extents
  extents end_picks = []
  extents (more_picks p ps) = extent p (extents ps)

  pub extent : Pick → Extents → Extents
  extent (One i) ns = ns
  extent (Full d) ns = d.extent ∷ ns
  extent (Range t) ns = count t ∷ ns
  extent (Vector t) ns = vector_extent (operands t) ∷ ns

-- ---- values

abbrev mutual
  -- The values at these places of the term's shape. A fault's element is the place in the list.
  pub values : Term → List ℕ → Staged (List ℤ)
  values (Scalar v) at = Ok (everywhere_same v at)
  values (Listed xs) at = Ok (map (value_at xs) at)
  values (Section' a _ ps) at = do
    subscripts ← columns ps at
    elements_at a at subscripts
  values (unary_term op t) at = do
    xs ← values t at
    unary_map op xs
  values (binary_term op t u) at = do
    xs ← values t at
    ys ← values u at
    binary_map op at xs ys
  values (Call' word _ ts) at = do
    xs ← all_values ts at
    call_map word at xs

  pub all_values : {m : _} → Terms m → List ℕ → Staged (List (List ℤ))
  all_values end_terms at = Ok []
  all_values (more_terms t ts) at = do
    xs ← values t at
    rest ← all_values ts at
    Ok (xs ∷ rest)

  -- the subscripts that a section has at these places, dimension by dimension
  pub columns : {m : _} → Picks m → List ℕ → Staged (List (List ℤ))
  columns end_picks at = Ok []
  columns (more_picks (One i) ps) at = do
    rest ← columns ps at
    Ok (everywhere_same i at ∷ rest)
  columns (more_picks (Full d) ps) at = do
    rest ← columns ps (beyond d.extent at)
    Ok (full_column d at ∷ rest)
  columns (more_picks (Range t) ps) at = do
    rest ← columns ps (beyond (count t) at)
    Ok (triplet_column t at ∷ rest)
  columns (more_picks (Vector t) ps) at = do
    first ← values t (here (vector_extent (operands t)) at)
    rest ← columns ps (beyond (vector_extent (operands t)) at)
    Ok (first ∷ rest)

-- A value with all its places active: conformance, then stage 2.
abbrev pub whole : Term → Staged (List ℤ)
whole t = do
  shape ← agreed (operands t)
  over_all_places (values t (all_places shape))

-- ---- targets

-- the array of a section, and the places of its elements that stand at these places of the section
abbrev pub array_of : Term → Option ArrayValue
array_of (Section' a _ ps) = Some a
array_of t = None

abbrev pub targets : Term → List ℕ → Staged (List ℕ)
targets (Section' a _ ps) at = do
  subscripts ← columns ps at
  places_at a at subscripts
targets t at = Ok []
