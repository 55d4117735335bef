-- A whole array has its values, in array element order, and its own places as targets.
use Rattle.std.proofs.Common.{◌≡◌, refl, ap, ◌∙◌, ℕ, ◌<◌, List, [], ◌∷◌, map, All, Ok, ℤ, Result}
use Rattle.std.proofs.lemmas.List.Elements.{All-head, All-tail}
use Rattle.std.specs.Prelude.{◌/◌}
use Rattle.ws_base.specs.Outcomes.{Staged, ◌>>=◌, joined, each, rows, pair_up}
use Rattle.ws_base.specs.declared.fault.FaultName.{FaultName}
use Rattle.ws_space.specs.declared.shape.Dim.{Dim}
use Rattle.ws_space.specs.declared.state.ArrayValue.{ArrayValue}
use Rattle.ws_space.specs.Shapes.{size, dims, extents_of, Extents, place}
use Rattle.ws_space.specs.Values.{value_at, element}
use Rattle.ws_space.specs.Sections.{beyond, full_column, elements_at, places_at}
use Rattle.ws_space.proofs.Places.{element_at, place-element_at}
use Rattle.array_meaning.specs.declared.term.Pick.TheVariants as pick
use Rattle.array_meaning.specs.declared.term.Pick.TheBlock.{hidden-the_row-Pick-0}
use Rattle.array_meaning.specs.Terms.{terms_open}
use Rattle.array_meaning.specs.Stage1.{whole_array}
use Rattle.array_meaning.specs.Stage2 as later
use Rattle.array_meaning.specs.Stage2.{columns, values, targets}
use Rattle.hlfir_meaning.specs.Selections.{array_operand}

full_columns : List Dim → List ℕ → List (List ℤ)
full_columns [] at = []
full_columns (d ∷ ds) at = full_column d at ∷ full_columns ds (beyond d.extent at)

columns-full : (ds : List Dim) (at : List ℕ) → columns (hidden-the_row-Pick-0 (map pick.Full ds)) at ≡ Ok (full_columns ds at)
unfolding terms_open full_columns
columns-full [] at = refl
columns-full (d ∷ ds) at = ap (λ r. r >>= (λ rest. let cs : Staged (List (List ℤ)) = Ok (full_column d at ∷ rest) in cs)) (columns-full ds (beyond d.extent at))

rows-none : (ds : List Dim) → (let none : List ℕ = [] in rows none (full_columns ds [])) ≡ []
unfolding full_columns
rows-none [] = refl
rows-none (d ∷ ds) = refl

rows-full : (ds : List Dim) (x : ℕ) (xs : List ℕ) (p : ℕ) (ps : List ℕ) → rows (x ∷ xs) (full_columns ds (p ∷ ps)) ≡ element_at ds p ∷ rows xs (full_columns ds ps)
unfolding full_columns
rows-full [] x xs p ps = refl
rows-full (d ∷ ds) x xs p ps = ap (pair_up (full_column d (p ∷ ps))) (rows-full ds x xs (p / d.extent) (beyond d.extent ps))

-- what is had at each element of a whole array stands in order
each-full : {A : Type 0} (ds : List Dim) (f : List ℤ → Result A FaultName) (g : ℕ → A) → ((p : ℕ) → p < size (extents_of ds) → f (element_at ds p) ≡ Ok (g p)) →
    (at : List ℕ) → All (λ p. p < size (extents_of ds)) at → each f (rows at (full_columns ds at)) ≡ Ok (map g at)
each-full ds f g has [] h = ap (each f) (rows-none ds)
each-full ds f g has (p ∷ ps) h =
    ap (each f) (rows-full ds p ps p ps)
    ∙ (ap (λ y. joined y (each f (rows ps (full_columns ds ps)))) (has p (All-head (λ q. q < size (extents_of ds)) p ps h))
    ∙ ap (joined (Ok (g p))) (each-full ds f g has ps (All-tail (λ q. q < size (extents_of ds)) p ps h)))

same_places : (at : List ℕ) → map (λ p. p) at ≡ at
same_places [] = refl
same_places (p ∷ ps) = ap (λ qs. p ∷ qs) (same_places ps)

module _ (a : ArrayValue) (at : List ℕ) (h : All (λ p. p < size (extents_of (dims a.shape))) at) where
  pub whole-values : values (whole_array a) at ≡ Ok (map (value_at a.values) at)
  unfolding terms_open
  whole-values = ap (λ r. r >>= elements_at a at) (columns-full (dims a.shape) at)
      ∙ each-full (dims a.shape) (element a) (value_at a.values) (λ p low. ap (λ r. r >>= (λ q. Ok (value_at a.values q))) (place-element_at (dims a.shape) p low)) at h

  -- the places themselves
  pub whole-targets : targets (whole_array a) at ≡ Ok at
  unfolding terms_open
  whole-targets = ap (λ r. r >>= places_at a at) (columns-full (dims a.shape) at)
      ∙ (each-full (dims a.shape) (place (dims a.shape)) (λ p. p) (place-element_at (dims a.shape)) at h ∙ ap (λ ps. let r : Staged (List ℕ) = Ok ps in r) (same_places at))

-- ---- array operands

pub same_operand : (e : Extents) → array_operand e ≡ later.array_operand e
same_operand [] = refl
same_operand (n ∷ ns) = refl
