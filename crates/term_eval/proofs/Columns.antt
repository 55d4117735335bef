-- Columns as rows.
use Rattle.std.proofs.Common.{◌≡◌, ℕ, zero, suc, ◌<◌, List, [], ◌∷◌, map, length, get_or, ℤ, pos, refl, sym, ap, ◌∙◌, arith}
use Rattle.std.specs.Prelude.{All}
use Rattle.std.proofs.lemmas.List.Elements.{All-nil, All-cons}
use Rattle.ws_base.specs.Outcomes.{pair_up, rows}

pair_up-length : (c : List ℤ) (rs : List (List ℤ)) → length c ≡ length rs → length (pair_up c rs) ≡ length rs
pair_up-length [] [] h = refl
pair_up-length [] (r ∷ rs) h = absurd (omega (arith, h))
pair_up-length (x ∷ c) [] h = absurd (omega (arith, h))
pair_up-length (x ∷ c) (r ∷ rs) h = ap suc (pair_up-length c rs (omega (arith, h)))

pair_up-at : (c : List ℤ) (rs : List (List ℤ)) (i : ℕ) (d : List ℤ) → i < length c → i < length rs → get_or (pair_up c rs) i d ≡ get_or c i (pos 0) ∷ get_or rs i []
pair_up-at [] rs i d h k = absurd (omega (arith, h))
pair_up-at (x ∷ c) [] i d h k = absurd (omega (arith, k))
pair_up-at (x ∷ c) (r ∷ rs) zero d h k = refl
pair_up-at (x ∷ c) (r ∷ rs) (suc i) d h k = pair_up-at c rs i d (omega (arith, h)) (omega (arith, k))

nothing-length : {X : Type 0} (at : List X) → length (map (λ _. let r : List ℤ = [] in r) at) ≡ length at
nothing-length [] = refl
nothing-length (p ∷ at) = ap suc (nothing-length at)

nothing-at : {X : Type 0} (at : List X) (i : ℕ) (d : List ℤ) → i < length at → get_or (map (λ _. let r : List ℤ = [] in r) at) i d ≡ []
nothing-at [] i d h = absurd (omega (arith, h))
nothing-at (p ∷ at) zero d h = refl
nothing-at (p ∷ at) (suc i) d h = nothing-at at i d (omega (arith, h))

-- a row for each place, of which each item is the column's at that place
module _ {X : Type 0} (at : List X) where
  pub rows-length : (cs : List (List ℤ)) → All (λ c. length c ≡ length at) cs → length (rows at cs) ≡ length at
  rows-length [] h = nothing-length at
  rows-length (c ∷ cs) h =
      let rest : length (rows at cs) ≡ length at = rows-length cs (λ i d l. h (suc i) d (omega (arith, l))) in
      pair_up-length c (rows at cs) (h 0 c (omega arith) ∙ sym rest) ∙ rest

  pub rows-at : (cs : List (List ℤ)) (i : ℕ) (d : List ℤ) → All (λ c. length c ≡ length at) cs → i < length at → get_or (rows at cs) i d ≡ map (λ c. get_or c i (pos 0)) cs
  rows-at [] i d h low = nothing-at at i d low
  rows-at (c ∷ cs) i d h low =
      let rest : All (λ e. length e ≡ length at) cs = λ k e l. h (suc k) e (omega (arith, l)) in
      let own : length c ≡ length at = h 0 c (omega arith) in
      pair_up-at c (rows at cs) i d (omega (arith, own, low)) (omega (arith, rows-length cs rest, low)) ∙ ap (λ r. get_or c i (pos 0) ∷ r) (rows-at cs i [] rest low)

pub two : (n : ℕ) (xs ys : List ℤ) → length xs ≡ n → length ys ≡ n → All (λ c. length c ≡ n) (xs ∷ ys ∷ [])
two n xs ys h k = All-cons (λ c. length c ≡ n) xs (ys ∷ []) h (All-cons (λ c. length c ≡ n) ys [] k (All-nil (λ c. length c ≡ n)))
