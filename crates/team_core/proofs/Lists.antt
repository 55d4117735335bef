-- Lists read by `get_elem?`.
use Rattle.std.proofs.Common.{◌≡◌, ℕ, zero, suc, ◌<◌, ◌≢◌, ◌⊎◌, List, [], ◌∷◌, ◌++◌, map, length, take, set, sym, refl, ap, inl, inr, ⊎_elim, arith}
use mathlib.Core.Option.{some, some-injective, some-ne-none}
use lib.ListN.{get_elem?}
use Rattle.phase_ops.specs.Free.{In}

module _ {A : Type 0} where
  pub at_set : (l : List A) (i j : ℕ) (a b : A) → get_elem? (set l i a) j ≡ some b → ((j ≡ i) × (a ≡ b)) ⊎ ((j ≢ i) × (get_elem? l j ≡ some b))
  at_set [] i j a b e = absurd (some-ne-none b (sym e))
  at_set (x ∷ xs) zero zero a b e = inl (refl, some-injective a b e)
  at_set (x ∷ xs) zero (suc j) a b e = inr ((λ h. omega arith), e)
  at_set (x ∷ xs) (suc i) zero a b e = inr ((λ h. omega arith), e)
  at_set (x ∷ xs) (suc i) (suc j) a b e = ⊎_elim (λ t. inl (ap suc t.0, t.1)) (λ t. let n = t.0 in inr ((λ h. n (omega arith)), t.1)) (at_set xs i j a b e)

  pub set_here : (l : List A) (i : ℕ) (a : A) → i < length l → get_elem? (set l i a) i ≡ some a
  set_here [] i a h = absurd (omega arith)
  set_here (x ∷ xs) zero a h = refl
  set_here (x ∷ xs) (suc i) a h = set_here xs i a (omega arith)

  pub set_else : (l : List A) (i j : ℕ) (a : A) → j ≢ i → get_elem? (set l i a) j ≡ get_elem? l j
  set_else [] i j a n = refl
  set_else (x ∷ xs) zero zero a n = absurd (n refl)
  set_else (x ∷ xs) zero (suc j) a n = refl
  set_else (x ∷ xs) (suc i) zero a n = refl
  set_else (x ∷ xs) (suc i) (suc j) a n = set_else xs i j a (λ e. n (ap suc e))

  pub set_again : (l : List A) (i : ℕ) (a : A) → get_elem? l i ≡ some a → set l i a ≡ l
  set_again [] i a e = refl
  set_again (x ∷ xs) zero a e = λ k. sym (some-injective x a e) k ∷ xs
  set_again (x ∷ xs) (suc i) a e = λ k. x ∷ set_again xs i a e k

  pub at_map : {B : Type 0} (f : A → B) (l : List A) (i : ℕ) (a : A) → get_elem? l i ≡ some a → get_elem? (map f l) i ≡ some (f a)
  at_map f [] i a e = absurd (some-ne-none a (sym e))
  at_map f (x ∷ xs) zero a e = ap (λ (y : A). some (f y)) (some-injective x a e)
  at_map f (x ∷ xs) (suc i) a e = at_map f xs i a e

  pub inside : (xs : List A) (i : ℕ) (a : A) → get_elem? xs i ≡ some a → i < length xs
  inside [] i a at = absurd (some-ne-none a (sym at))
  inside (x ∷ xs) zero a at = omega arith
  inside (x ∷ xs) (suc i) a at = let r = inside xs i a at in omega arith

  pub member_at : (xs : List A) (i : ℕ) (a : A) → get_elem? xs i ≡ some a → In a xs
  member_at [] i a at = absurd (some-ne-none a (sym at))
  member_at (x ∷ xs) zero a at = inl (sym (some-injective x a at))
  member_at (x ∷ xs) (suc i) a at = inr (member_at xs i a at)

  pub member_taken : (xs : List A) (n : ℕ) (a : A) → In a (take n xs) → In a xs
  member_taken [] zero a h = h
  member_taken [] (suc n) a h = h
  member_taken (x ∷ xs) zero a h = elim h [ ]
  member_taken (x ∷ xs) (suc n) a (inl e) = inl e
  member_taken (x ∷ xs) (suc n) a (inr h) = inr (member_taken xs n a h)

  pub take_next : (xs : List A) (i : ℕ) (e : A) → get_elem? xs i ≡ some e → take (suc i) xs ≡ take i xs ++ e ∷ []
  take_next [] i e h = absurd (some-ne-none e (sym h))
  take_next (x ∷ xs) zero e h = λ k. some-injective x e h k ∷ []
  take_next (x ∷ xs) (suc i) e h = λ k. x ∷ take_next xs i e h k

  pub take_whole : (xs : List A) → take (length xs) xs ≡ xs
  take_whole [] = refl
  take_whole (x ∷ xs) = λ k. x ∷ take_whole xs k
