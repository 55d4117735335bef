-- What a definition says of the row of a tree, said of the list that the code goes over.
use Rattle.std.proofs.Common.{◌≡◌, sym, ap, ◌∙◌, ℕ, zero, suc, ◌+◌, ◌*◌, ◌<◌, ◌≤◌, List, [], ◌∷◌, length, get_or, All, arith}
use Rattle.std.proofs.lemmas.List.Elements.{All-nil, All-cons, All-head, All-tail}

module _ {A : Type 0} where
  -- what holds of a row holds of each in it
  pub each_in_row : (P : A → Type 0) (Row : List A → Type 0) → ((x : A) (xs : List A) → Row (x ∷ xs) → P x × Row xs) → (xs : List A) → Row xs → All P xs
  each_in_row P Row parts [] h = All-nil P
  each_in_row P Row parts (x ∷ xs) h = let here = parts x xs h in All-cons P x xs here.0 (each_in_row P Row parts xs here.1)

  pub row_of_each : (P : A → Type 0) (Row : List A → Type 0) → Row [] → ((x : A) (xs : List A) → P x × Row xs → Row (x ∷ xs)) → (xs : List A) → All P xs → Row xs
  row_of_each P Row none more [] h = none
  row_of_each P Row none more (x ∷ xs) h = more x xs (All-head P x xs h, row_of_each P Row none more xs (All-tail P x xs h))

  -- ---- weights, which bound how deep calls go

  abbrev pub row_weight : (A → ℕ) → List A → ℕ
  row_weight weigh [] = 0
  row_weight weigh (x ∷ xs) = weigh x + row_weight weigh xs

  -- a row weighs less than what it stands in
  pub row-within : (weigh : A → ℕ) (n whole : ℕ) (xs xs' : List A) → 2 * whole ≡ n → whole ≡ suc (row_weight weigh xs) → xs' ≡ xs → 2 * row_weight weigh xs' + 1 < n
  row-within weigh n whole xs xs' m is same = let e : whole ≡ suc (row_weight weigh xs') = is ∙ ap (λ l. suc (row_weight weigh l)) (sym same) in omega (arith, e, m)

  at-within : (weigh : A → ℕ) (xs : List A) (i : ℕ) (d : A) → i < length xs → weigh (get_or xs i d) ≤ row_weight weigh xs
  at-within weigh [] i d h = absurd (omega (arith, h))
  at-within weigh (x ∷ xs) zero d h = omega arith
  at-within weigh (x ∷ xs) (suc i) d h = omega (arith, at-within weigh xs i d (omega (arith, h)))

  -- one weighs less than its row
  pub one-within : (weigh : A → ℕ) (n : ℕ) (xs : List A) (i : ℕ) (x : A) → 2 * row_weight weigh xs + 1 ≡ n → i < length xs → x ≡ get_or xs i x → 2 * weigh x < n
  one-within weigh n xs i x m low is = omega (arith, ap weigh is, at-within weigh xs i x low, m)
