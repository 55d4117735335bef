-- MIN and MAX of columns: of all at once, or of the last one and what the ones before it gave.
use Rattle.std.proofs.Common.{◌≡◌, refl, sym, ap, ◌∙◌, ℕ, false, List, [], ◌∷◌, ◌++◌, map, Ok, ℤ}
use Rattle.ws_base.specs.declared.op.CallWord.{CallWord}
use Rattle.ws_base.specs.declared.op.CallWord.TheVariants as word
use Rattle.ws_base.specs.Numbers.{default_half, call_value, int_min, int_max, least, greatest}
use Rattle.ws_base.specs.Outcomes.{Staged, joined, each, rows, pair_up}
use Rattle.ws_space.specs.Maps.{everywhere_same, call_map}
use Rattle.hlfir_ops.specs.declared.what.ValueBinary.{ValueBinary}
use Rattle.hlfir_ops.specs.declared.what.ValueBinary.TheVariants as binary
use Rattle.hlfir_meaning.specs.Operators.{binary_operation, call}
use Rattle.ws_types.specs.Operations.{is_reduction}

-- The call gives the total of its arguments, which goes from left to right; it never faults.
pub record IsNesting (op : ValueBinary) (w : CallWord) (f : ℤ → ℤ → ℤ) (total : ℤ → List ℤ → ℤ) : Type 0 where
  pub one : (a : ℤ) → total a [] ≡ a
  pub more : (a b : ℤ) (rest : List ℤ) → total a (b ∷ rest) ≡ total (f a b) rest
  pub value : (a : ℤ) (rest : List ℤ) → call_value default_half w (a ∷ rest) ≡ Ok (total a rest)
  pub acts : binary_operation op ≡ call w
  pub elemental : is_reduction w ≡ false

pub min-nests : IsNesting binary.Min word.Min int_min least
min-nests = record { one = λ a. refl; more = λ a b rest. refl; value = λ a rest. refl; acts = refl; elemental = refl }

pub max-nests : IsNesting binary.Max word.Max int_max greatest
max-nests = record { one = λ a. refl; more = λ a b rest. refl; value = λ a rest. refl; acts = refl; elemental = refl }

-- ---- rows with one more value each

with_last : List (List ℤ) → List ℤ → List (List ℤ)
with_last (r ∷ rs) (y ∷ ys) = (r ++ y ∷ []) ∷ with_last rs ys
with_last _ _ = []

abbrev no_values : List ℕ → List (List ℤ)
no_values = map (λ _. [])

alone : (at : List ℕ) (ys : List ℤ) → pair_up ys (no_values at) ≡ with_last (no_values at) ys
unfolding with_last
alone [] [] = refl
alone [] (y ∷ ys) = refl
alone (p ∷ at) [] = refl
alone (p ∷ at) (y ∷ ys) = ap (λ rs. (y ∷ []) ∷ rs) (alone at ys)

before_last : (c : List ℤ) (rs : List (List ℤ)) (ys : List ℤ) → pair_up c (with_last rs ys) ≡ with_last (pair_up c rs) ys
unfolding with_last
before_last [] rs ys = refl
before_last (x ∷ c) [] ys = refl
before_last (x ∷ c) (r ∷ rs) [] = refl
before_last (x ∷ c) (r ∷ rs) (y ∷ ys) = ap (λ qs. (x ∷ (r ++ y ∷ [])) ∷ qs) (before_last c rs ys)

rows-last : (at : List ℕ) (cs : List (List ℤ)) (ys : List ℤ) → rows at (cs ++ ys ∷ []) ≡ with_last (rows at cs) ys
rows-last at [] ys = alone at ys
rows-last at (c ∷ cs) ys = ap (pair_up c) (rows-last at cs ys) ∙ before_last c (rows at cs) ys

-- no more rows than places
abbrev NoLonger : List (List ℤ) → List ℕ → Type 0
NoLonger [] at = Unit {0}
NoLonger (r ∷ rs) [] = ⊥
NoLonger (r ∷ rs) (p ∷ at) = NoLonger rs at

none_longer : (at : List ℕ) → NoLonger (no_values at) at
none_longer [] = tt
none_longer (p ∷ at) = none_longer at

pair_longer : (c : List ℤ) (rs : List (List ℤ)) (at : List ℕ) → NoLonger rs at → NoLonger (pair_up c rs) at
pair_longer [] rs at h = tt
pair_longer (x ∷ c) [] at h = tt
pair_longer (x ∷ c) (r ∷ rs) [] h = absurd h
pair_longer (x ∷ c) (r ∷ rs) (p ∷ at) h = pair_longer c rs at h

rows_longer : (at : List ℕ) (cs : List (List ℤ)) → NoLonger (rows at cs) at
rows_longer at [] = none_longer at
rows_longer at (c ∷ cs) = pair_longer c (rows at cs) at (rows_longer at cs)

-- ---- totals

module _ (op : ValueBinary) (w : CallWord) (f : ℤ → ℤ → ℤ) (total : ℤ → List ℤ → ℤ) (is : IsNesting op w f total) where
  pub total-last : (a : ℤ) (rest : List ℤ) (b : ℤ) → total a (rest ++ b ∷ []) ≡ f (total a rest) b
  total-last a [] b = is.more a b [] ∙ (is.one (f a b) ∙ ap (λ c. f c b) (sym (is.one a)))
  total-last a (c ∷ rest) b = is.more a c (rest ++ b ∷ []) ∙ (total-last (f a c) rest b ∙ ap (λ d. f d b) (sym (is.more a c rest)))

  -- of each row and the value before it
  pub totals : List ℤ → List (List ℤ) → List ℤ
  totals (x ∷ c) (r ∷ rs) = total x r ∷ totals c rs
  totals _ _ = []

  pub each-totals : (c : List ℤ) (rs : List (List ℤ)) → each (call_value default_half w) (pair_up c rs) ≡ Ok (totals c rs)
  unfolding totals
  each-totals [] rs = refl
  each-totals (x ∷ c) [] = refl
  each-totals (x ∷ c) (r ∷ rs) = ap (λ v. joined v (each (call_value default_half w) (pair_up c rs))) (is.value x r) ∙ ap (joined (Ok (total x r))) (each-totals c rs)

  totals_last : (at : List ℕ) (c : List ℤ) (rs : List (List ℤ)) (ys : List ℤ) → NoLonger rs at → totals c (with_last rs ys) ≡ totals (totals c rs) (pair_up ys (no_values at))
  unfolding totals with_last
  totals_last at [] rs ys h = refl
  totals_last at (x ∷ c) [] ys h = refl
  totals_last at (x ∷ c) (r ∷ rs) [] h = refl
  totals_last [] (x ∷ c) (r ∷ rs) (y ∷ ys) h = absurd h
  totals_last (p ∷ at) (x ∷ c) (r ∷ rs) (y ∷ ys) h =
      ap (λ z. z ∷ totals c (with_last rs ys)) (total-last x r y ∙ sym (is.more (total x r) y [] ∙ is.one (f (total x r) y)))
      ∙ ap (λ zs. total (total x r) (y ∷ []) ∷ zs) (totals_last at c rs ys h)

  -- the last column after the others
  pub call_map-last : (at : List ℕ) (c : List ℤ) (cs : List (List ℤ)) (ys : List ℤ) → call_map w at (totals c (rows at cs) ∷ ys ∷ []) ≡ call_map w at (c ∷ (cs ++ ys ∷ []))
  call_map-last at c cs ys =
      each-totals (totals c (rows at cs)) (rows at (ys ∷ []))
      ∙ (ap (λ zs. let r : Staged (List ℤ) = Ok zs in r) (sym (totals_last at c (rows at cs) ys (rows_longer at cs)) ∙ ap (totals c) (sym (rows-last at cs ys)))
      ∙ sym (each-totals c (rows at (cs ++ ys ∷ []))))

  -- ---- the same values everywhere

  rows-same : (at : List ℕ) (vs : List ℤ) → rows at (map (λ v. everywhere_same v at) vs) ≡ map (λ _. vs) at
  rows-same at [] = refl
  rows-same at (v ∷ vs) = ap (pair_up (everywhere_same v at)) (rows-same at vs) ∙ paired at
    where
      paired : (ps : List ℕ) → pair_up (everywhere_same v ps) (map (λ _. vs) ps) ≡ map (λ _. v ∷ vs) ps
      paired [] = refl
      paired (p ∷ ps) = ap (λ rs. (v ∷ vs) ∷ rs) (paired ps)

  totals-same : (at : List ℕ) (v : ℤ) (vs : List ℤ) → totals (everywhere_same v at) (map (λ _. vs) at) ≡ everywhere_same (total v vs) at
  unfolding totals
  totals-same [] v vs = refl
  totals-same (p ∷ at) v vs = ap (λ zs. total v vs ∷ zs) (totals-same at v vs)

  pub call_map-same : (at : List ℕ) (v : ℤ) (vs : List ℤ) → call_map w at (map (λ z. everywhere_same z at) (v ∷ vs)) ≡ Ok (everywhere_same (total v vs) at)
  call_map-same at v vs =
      each-totals (everywhere_same v at) (rows at (map (λ z. everywhere_same z at) vs))
      ∙ ap (λ zs. let r : Staged (List ℤ) = Ok zs in r) (ap (totals (everywhere_same v at)) (rows-same at vs) ∙ totals-same at v vs)
