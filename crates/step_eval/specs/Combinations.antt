-- The combinations of the indexes of a FORALL, which the code keeps as places among all of them.
use Rattle.std.specs.Prelude.{◌≡◌, ◌≢◌, ◌<◌, ℕ, if◌then◌else◌, List, [], ◌∷◌, map, Option, Some, None, Ok, ℤ, pos, bytes_eq}
use Rattle.std.specs.List.{All}
use Rattle.ws_base.specs.Outcomes.{Staged, ◌>>=◌}
use Rattle.ws_space.specs.declared.shape.Triplet.{Triplet}
use Rattle.ws_space.specs.Shapes.{count, size}
use Rattle.ws_space.specs.Values.{Name}
use Rattle.ws_space.specs.Sections.{beyond, triplet_column}
use Rattle.ws_space.specs.Combinations.{lengths}
use Rattle.ws_tree.specs.declared.expr.Expr.{Expr}
use Rattle.ws_tree.specs.declared.expr.Sub.{Sub}
use Rattle.ws_tree.specs.declared.expr.Sub.TheVariants as sub
use Rattle.ws_tree.specs.declared.stmt.Index.{Index}
use Rattle.array_meaning.specs.declared.world.World.{World}
use Rattle.array_meaning.specs.Forall.{Combination, combination, over}
use Rattle.term_eval.specs.Limits.{IsInteger}
use Rattle.step_eval.specs.Masked.{ArePlaces}

-- the combinations at these places
abbrev pub combinations_at : List Index → List Triplet → List ℕ → List Combination
combinations_at is ts = map (combination is ts)

-- the values of the index of this name at these places, if there is one; the first index varies fastest
abbrev pub index_values : List Index → List Triplet → Name → List ℕ → Option (List ℤ)
index_values (i ∷ is) (t ∷ ts) x ps = if bytes_eq i.name x then Some (triplet_column t ps) else index_values is ts x (beyond (count t) ps)
index_values _ _ x ps = None

-- ---- over lists

abbrev pub over_all : World → List Expr → List Combination → Staged (List (List ℤ))
over_all w [] cs = Ok []
over_all w (e ∷ es) cs = do
  xs ← over w e cs
  rest ← over_all w es cs
  Ok (xs ∷ rest)

abbrev pub over_subs : World → List Sub → List Combination → Staged (List (List ℤ))
over_subs w [] cs = Ok []
over_subs w (sub.One e ∷ ss) cs = do
  xs ← over w e cs
  rest ← over_subs w ss cs
  Ok (xs ∷ rest)
over_subs w (sub.Range' l u s ∷ ss) cs = over_subs w ss cs

-- ---- limits

-- an index that goes from one default integer to another
pub record IsAxis (t : Triplet) : Type 0 where
  pub first : IsInteger t.l
  pub last : IsInteger t.u
  pub stride : t.s ≢ pos 0

-- places among all combinations
pub record AreCombinations (ts : List Triplet) (ps : List ℕ) : Type 0 where
  pub axes : All IsAxis ts
  pub places : ArePlaces ps
  pub within : All (λ p. p < size (lengths ts)) ps
