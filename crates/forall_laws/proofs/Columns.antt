-- Columns of values at the combinations that stand at places.
use Rattle.std.proofs.Common.{◌≡◌, refl, ap, ◌∙◌, ℕ, List, [], ◌∷◌, map, Some, None, Result, Ok, Err, ℤ}
use Rattle.ws_base.specs.declared.fault.FaultName.{FaultName}
use Rattle.ws_base.specs.declared.name.Name.{Name}
use Rattle.ws_base.specs.Outcomes.{Staged, ◌>>=◌, joined, each, rows, pair_up}
use Rattle.ws_space.specs.declared.state.VarState.{VarState}
use Rattle.ws_space.specs.declared.state.VarState.TheVariants as state
use Rattle.ws_space.specs.Values.{state_of, value_at}
use Rattle.ws_space.specs.Maps.{everywhere_same}
use Rattle.array_meaning.specs.declared.world.World.{World}
use Rattle.array_meaning.specs.Stage1.{constant_of}
use Rattle.array_meaning.specs.Forall as source
use Rattle.array_meaning.specs.Forall.{Combination, name_value, element_of}
use Rattle.hlfir_meaning.specs.References.{held_values}
use Rattle.hlfir_meaning.specs.Places.{place_in}

-- ---- lists over combinations, and over their places

module _ {A B : Type 0} (of : A → B) where
  pub map-over : {C : Type 0} (g : B → C) (at : List A) → map g (map of at) ≡ map (λ p. g (of p)) at
  map-over g [] = refl
  map-over g (p ∷ at) = ap (λ ys. g (of p) ∷ ys) (map-over g at)

  pub rows-over : {X : Type 0} (at : List A) (cs : List (List X)) → rows (map of at) cs ≡ rows at cs
  rows-over at [] = map-over (λ _. []) at
  rows-over at (c ∷ cs) = ap (pair_up c) (rows-over at cs)

  pub same-over : (z : ℤ) (at : List A) → everywhere_same z (map of at) ≡ everywhere_same z at
  same-over z at = map-over (λ _. z) at

  pub each-over : {X : Type 0} (r : Result X FaultName) (at : List A) → each (λ _. r) (map of at) ≡ each (λ _. r) at
  each-over r [] = refl
  each-over r (p ∷ at) = ap (joined r) (each-over r at)

pub map-same : {A C : Type 0} (f g : A → C) (at : List A) → ((p : A) → f p ≡ g p) → map f at ≡ map g at
map-same f g [] h = refl
map-same f g (p ∷ at) h = ap (λ y. y ∷ map f at) (h p) ∙ ap (λ ys. g p ∷ ys) (map-same f g at h)

-- ---- elements

abbrev loaded : VarState → Staged (List ℕ) → Staged (List ℤ)
loaded s r = r >>= (λ ps. Ok (map (value_at (held_values s)) ps))

one_element : (s : VarState) (r : Result ℕ FaultName) (xs : Staged (List ℤ)) (ps : Staged (List ℕ)) → xs ≡ loaded s ps → joined (r >>= (λ p. Ok (value_at (held_values s) p))) xs ≡ loaded s (joined r ps)
one_element s (Err n) xs ps h = refl
one_element s (Ok p) xs (Ok ps) h = ap (joined (Ok (value_at (held_values s) p))) h
one_element s (Ok p) xs (Err t) h = ap (joined (Ok (value_at (held_values s) p))) h

element-place : (s : VarState) (is : List ℤ) → element_of s is ≡ (place_in s is >>= (λ p. Ok (value_at (held_values s) p)))
element-place (state.Array a) is = refl
element-place (state.Scalar z) is = refl
element-place (state.Unallocated r) is = refl

-- an element is what stands at its place
pub elements-placed : (s : VarState) (rs : List (List ℤ)) → each (element_of s) rs ≡ (each (place_in s) rs >>= (λ ps. Ok (map (value_at (held_values s)) ps)))
elements-placed s [] = refl
elements-placed s (r ∷ rs) = ap (λ x. joined x (each (element_of s) rs)) (element-place s r) ∙ one_element s (place_in s r) (each (element_of s) rs) (each (place_in s) rs) (elements-placed s rs)

place-same : (s : VarState) (is : List ℤ) → source.place_in s is ≡ place_in s is
place-same (state.Array a) is = refl
place-same (state.Scalar z) is = refl
place-same (state.Unallocated r) is = refl

pub places-same : (s : VarState) (rs : List (List ℤ)) → each (source.place_in s) rs ≡ each (place_in s) rs
places-same s [] = refl
places-same s (r ∷ rs) = ap (λ x. joined x (each (source.place_in s) rs)) (place-same s r) ∙ ap (joined (place_in s r)) (places-same s rs)

-- ---- what names stand for

module _ (w : World) (x : Name) (c : Combination) where
  pub index-value : (z : ℤ) → constant_of c x ≡ Some z → name_value w x c ≡ z
  index-value z h = rw h refl

  pub constant-value : (z : ℤ) → constant_of c x ≡ None → constant_of w.constants x ≡ Some z → name_value w x c ≡ z
  constant-value z h g = rw h (rw g refl)

  pub variable-value : (z : ℤ) → constant_of c x ≡ None → constant_of w.constants x ≡ None → state_of w.vars x ≡ state.Scalar z → name_value w x c ≡ z
  variable-value z h g k = rw h (rw g (rw k refl))
