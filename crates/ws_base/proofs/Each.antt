-- One operation at each item of a list.
use Rattle.std.proofs.Common.{◌≡◌, ℕ, zero, suc, ◌<◌, List, [], ◌∷◌, map, length, get_or, Ok, Err, Some, Result, refl, sym, ap, ◌∙◌, arith}
use Rattle.std.specs.List.{All, slice_get}
use Rattle.ws_base.specs.declared.fault.FaultName.{FaultName}
use Rattle.ws_base.specs.declared.fault.Trouble.{Trouble}
use Rattle.ws_base.specs.Outcomes.{Staged, later, joined, each}
use Rattle.ws_base.specs.Laws.{EachAlone, FailsFirst, AnyOrder}

record Joins {B : Type 0} (r : Result B FaultName) (rest : Staged (List B)) (ys : List B) : Type 0 where
  head : B
  tail : List B
  head_is : r ≡ Ok head
  tail_is : rest ≡ Ok tail
  both_are : ys ≡ head ∷ tail

joined_ok : {B : Type 0} (r : Result B FaultName) (rest : Staged (List B)) (ys : List B) → joined r rest ≡ Ok ys → Joins r rest ys
joined_ok (Err n) rest ys h = let f : ⊥ = cc in absurd f
joined_ok (Ok y) (Ok zs) ys h = record { head = y; tail = zs; head_is = refl; tail_is = refl; both_are = cc }
joined_ok (Ok y) (Err t) ys h = let f : ⊥ = cc in absurd f

module _ {A B : Type 0} (f : A → Result B FaultName) where
  each_values : (xs : List A) (ys : List B) → each f xs ≡ Ok ys → map f xs ≡ map Ok ys
  each_values [] ys h = let e : [] ≡ ys = cc in rw (← e) refl
  each_values (x ∷ xs) ys h =
      let j = joined_ok (f x) (each f xs) ys h in
      ap (λ r. r ∷ map f xs) j.head_is ∙ ap (λ zs. Ok j.head ∷ zs) (each_values xs j.tail j.tail_is) ∙ sym (ap (map Ok) j.both_are)

  values_each : (xs : List A) (ys : List B) → map f xs ≡ map Ok ys → each f xs ≡ Ok ys
  values_each [] [] h = refl
  values_each [] (y ∷ ys) h = let f : ⊥ = cc in absurd f
  values_each (x ∷ xs) [] h = let f : ⊥ = cc in absurd f
  values_each (x ∷ xs) (y ∷ ys) h =
      let head : f x ≡ Ok y = cc in
      let tail : map f xs ≡ map Ok ys = cc in
      rw (head, values_each xs ys tail) refl

  pub EachAlone-all : (xs : List A) (ys : List B) → EachAlone f xs ys
  EachAlone-all xs ys = (each_values xs ys, values_each xs ys)

  at_head : (x : A) (xs : List A) (n : FaultName) (t : Trouble) → f x ≡ Err n → t ≡ record { element = 0; name = n } → FailsFirst f (x ∷ xs) t
  at_head x xs n t h e = rw e (record { fault = rw h refl; before = λ k low. absurd (omega arith) })

  past_head : (x : A) (xs : List A) (y : B) (s t : Trouble) → f x ≡ Ok y → FailsFirst f xs s → t ≡ later s → FailsFirst f (x ∷ xs) t
  past_head x xs y s t h rest e = rw e (record { fault = rest.fault; before = λ k low. earlier k low }) where
    earlier : (k : ℕ) → k < suc s.element → (value : B) × (slice_get (f x ∷ map f xs) k ≡ Some (Ok value))
    earlier zero low = (y, ap Some h)
    earlier (suc k) low = rest.before k (omega arith)

  step : (x : A) (xs : List A) (r : Result B FaultName) (rest : Staged (List B)) (t : Trouble) → f x ≡ r → each f xs ≡ rest → joined r rest ≡ Err t → ((s : Trouble) → each f xs ≡ Err s → FailsFirst f xs s) → FailsFirst f (x ∷ xs) t
  step x xs (Err n) rest t h g e more = at_head x xs n t h cc
  step x xs (Ok y) (Ok ys) t h g e more = let f : ⊥ = cc in absurd f
  step x xs (Ok y) (Err s) t h g e more = past_head x xs y s t h (more s g) cc

  pub FailsFirst-from_each : (xs : List A) (t : Trouble) → each f xs ≡ Err t → FailsFirst f xs t
  FailsFirst-from_each [] t h = let f : ⊥ = cc in absurd f
  FailsFirst-from_each (x ∷ xs) t h = step x xs (f x) (each f xs) t refl refl h (λ s. FailsFirst-from_each xs s)

  value_at : (xs : List A) (ys : List B) (k : ℕ) (a : A) (b : B) → map f xs ≡ map Ok ys → k < length xs → f (get_or xs k a) ≡ Ok (get_or ys k b)
  value_at [] ys k a b h low = absurd (omega arith)
  value_at (x ∷ xs) [] k a b h low = let f : ⊥ = cc in absurd f
  value_at (x ∷ xs) (y ∷ ys) zero a b h low = cc
  value_at (x ∷ xs) (y ∷ ys) (suc k) a b h low = let tail : map f xs ≡ map Ok ys = cc in value_at xs ys k a b tail (omega arith)

  picked : (xs : List A) (ys : List B) (a : A) (b : B) → map f xs ≡ map Ok ys → (order : List ℕ) → All (λ k. k < length xs) order → map f (map (λ k. get_or xs k a) order) ≡ map Ok (map (λ k. get_or ys k b) order)
  picked xs ys a b h [] all = refl
  picked xs ys a b h (k ∷ ks) all =
      rw (value_at xs ys k a b h (all 0 0 (omega arith))) (ap (λ zs. Ok (get_or ys k b) ∷ zs) (picked xs ys a b h ks (λ i d low. all (suc i) d (omega arith))))

  pub AnyOrder-all : (xs : List A) (ys : List B) (order : List ℕ) (a : A) (b : B) → AnyOrder f xs ys order a b
  AnyOrder-all xs ys order a b h all =
      values_each (map (λ k. get_or xs k a) order) (map (λ k. get_or ys k b) order) (picked xs ys a b (each_values xs ys h) order all)
