-- What a designator of a module selects is what its source picks.
use Rattle.std.specs.Prelude.{◌≡◌, ℕ, ◌<◌, List, [], ◌∷◌, map, Ok, Err, ℤ}
use Rattle.std.specs.List.{All, flat_map}
use Rattle.ws_base.specs.Outcomes.{Staged, ◌>>=◌}
use Rattle.ws_space.specs.declared.shape.Dim.{Dim}
use Rattle.ws_space.specs.Values.{value_at}
use Rattle.ws_space.specs.Sections.{elements_at}
use Rattle.array_meaning.specs.declared.term.Term.{Term}
use Rattle.array_meaning.specs.declared.term.Pick.{Pick}
use Rattle.array_meaning.specs.declared.term.Pick.TheVariants as pick
use Rattle.array_meaning.specs.Stage2 as later
use Rattle.hlfir_meaning.specs.Environments.{Environment, Selection, complete, one, range, listed, through}
use Rattle.hlfir_meaning.specs.Selections.{first_extent, extents, columns}
use Rattle.hlfir_meaning.specs.Stage1.{selection}
use Rattle.lower_values.specs.declared.operand.Subscript.{Subscript}
use Rattle.lower_values.specs.References.{sub_kind, sub_values}

-- A vector has as many subscripts as the term, and the term's values at all their places, or its fault.
pub record IsVector (n : ℕ) (given : List ℕ → Staged (List ℤ)) (t : Term) : Type 0 where
  pub extent : later.vector_extent (later.operands t) ≡ n
  pub values : (at : List ℕ) → All (λ p. p < n) at → given at ≡ later.values t at

-- Dimension by dimension: the same subscript, the same triplet, or a vector of the same subscripts. There are no more subscripts than dimensions.
abbrev pub Selects : List Dim → Selection → List Pick → Type 0
Selects ds complete [] = Unit {0}
Selects (d ∷ ds) (one i s) (pick.One j ∷ ps) = (i ≡ j) × Selects ds s ps
Selects (d ∷ ds) (range t s) (pick.Range u ∷ ps) = (t ≡ u) × Selects ds s ps
Selects (d ∷ ds) (listed n xs s) (pick.Vector t ∷ ps) = IsVector n (λ at. Ok (map (value_at xs) at)) t × Selects ds s ps
Selects (d ∷ ds) (through a inner s) (pick.Vector t ∷ ps) = IsVector (first_extent (extents inner)) (λ at. columns inner at >>= elements_at a at) t × Selects ds s ps
Selects _ _ _ = ⊥

-- what these subscripts select
abbrev pub selected_by : Environment → List Subscript → Selection
selected_by env ss = selection env (map sub_kind ss) (flat_map sub_values ss)

-- both are this, or both fault alike
abbrev pub Agree : {A B : Type 0} → (A → B → Type 0) → Staged A → Staged B → Type 0
Agree P (Ok a) (Ok b) = P a b
Agree P (Err t) (Err u) = t ≡ u
Agree P _ _ = ⊥
