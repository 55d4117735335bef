-- Lists of values that grow by one value for each item.
use Rattle.std.proofs.Common.{◌≡◌, ◌≢◌, ℕ, suc, ◌+◌, ◌<◌, ◌≤◌, List, [], ◌∷◌, ◌++◌, length, map, drop, get_or, Ok, Err, Result, refl, sym, ap, ◌∙◌, append_assoc, append-nil, length-append, add-one, arith}
use native.Mathlib.Nat.{add-zero}
use Rattle.std.proofs.Math.Seq.{drop-cons}
use Rattle.std.proofs.Math.ListN.{drop_of_length-le}
use Rattle.ws_base.specs.declared.fault.FaultName.{FaultName}
use Rattle.ws_base.specs.declared.fault.Trouble.{Trouble}
use Rattle.ws_base.specs.Outcomes.{Staged, ◌>>=◌, trouble, joined, each}
use Rattle.term_eval.specs.declared.stop.Stop.{Stop}
use Rattle.term_eval.specs.declared.stop.Stop.TheVariants.{Memory, Failed}
use Rattle.term_eval.specs.Made.{Stops, keeps, made_then}

module _ {B : Type 0} where
  after_one : (r : Result B FaultName) (rest : Staged (List B)) (made new : List B) → keeps r made ≡ Ok new → made_then made (joined r rest) ≡ made_then new rest
  after_one (Ok y) (Ok ys) made new h = let e : made ++ y ∷ [] ≡ new = cc in ap Ok (sym (append_assoc made (y ∷ []) ys) ∙ ap (λ l. l ++ ys) e)
  after_one (Ok y) (Err t) made new h =
      let e : made ++ y ∷ [] ≡ new = cc in
      let n : length made + suc t.element ≡ length new + t.element = omega (arith, ap length e, length-append made (y ∷ [])) in
      ap (λ m. Err (record { element = m; name = t.name })) n
  after_one (Err n) rest made new h = let f : ⊥ = cc in absurd f

  at_fault : (r : Result B FaultName) (rest : Staged (List B)) (made : List B) (t : Trouble) → keeps r made ≡ Err t → made_then made (joined r rest) ≡ Err t
  at_fault (Ok y) rest made t h = let f : ⊥ = cc in absurd f
  at_fault (Err n) rest made t h = ap (λ m. Err (record { element = m; name = n })) (add-zero (length made)) ∙ h

  pub keeps-length : (r : Result B FaultName) (made new : List B) → keeps r made ≡ Ok new → length new ≡ length made + 1
  keeps-length (Ok y) made new h = let e : made ++ y ∷ [] ≡ new = cc in omega (arith, ap length e, length-append made (y ∷ []))
  keeps-length (Err n) made new h = let f : ⊥ = cc in absurd f

module _ {A B : Type 0} (f : A → Result B FaultName) where
  pub one_more : (xs : List A) (i : ℕ) (d : A) (r : Result B FaultName) (made new : List B) → i < length xs → r ≡ f (get_or xs i d) → keeps r made ≡ Ok new →
      each f xs ≡ made_then made (each f (drop i xs)) → each f xs ≡ made_then new (each f (drop (i + 1) xs))
  one_more xs i d r made new h is step before =
      let now : keeps (f (get_or xs i d)) made ≡ Ok new = ap (λ s. keeps s made) (sym is) ∙ step in
      before
      ∙ (ap (λ l. made_then made (each f l)) (drop-cons xs i d h)
      ∙ (after_one (f (get_or xs i d)) (each f (drop (suc i) xs)) made new now ∙ ap (λ k. made_then new (each f (drop k xs))) (sym (add-one i))))

  fails_at : (xs : List A) (i : ℕ) (d : A) (r : Result B FaultName) (made : List B) (t : Trouble) → i < length xs → r ≡ f (get_or xs i d) → keeps r made ≡ Err t →
      each f xs ≡ made_then made (each f (drop i xs)) → each f xs ≡ Err t
  fails_at xs i d r made t h is step before =
      let now : keeps (f (get_or xs i d)) made ≡ Err t = ap (λ s. keeps s made) (sym is) ∙ step in
      before ∙ (ap (λ l. made_then made (each f l)) (drop-cons xs i d h) ∙ at_fault (f (get_or xs i d)) (each f (drop (suc i) xs)) made t now)

  pub stops_at : (xs : List A) (i : ℕ) (d : A) (r : Result B FaultName) (made : List B) (s : Stop) → i < length xs → r ≡ f (get_or xs i d) → Stops s (keeps r made) →
      each f xs ≡ made_then made (each f (drop i xs)) → Stops s (each f xs)
  stops_at xs i d r made Memory h is stops before = tt
  stops_at xs i d r made (Failed t) h is stops before = fails_at xs i d r made t h is stops before

  pub all_made : (xs : List A) (i : ℕ) (made : List B) → length xs ≤ i → each f xs ≡ made_then made (each f (drop i xs)) → each f xs ≡ Ok made
  all_made xs i made h before = before ∙ (ap (λ l. made_then made (each f l)) (drop_of_length-le xs h) ∙ ap Ok (append-nil made))

-- ---- an operation, and then another that never fails

module _ {A B C : Type 0} (f : A → Result B FaultName) (g : B → C) where
  joined_then : (r : Result B FaultName) (rest : Staged (List B)) (both : Staged (List C)) → both ≡ (rest >>= (λ ys. Ok (map g ys))) →
      joined (r >>= (λ y. Ok (g y))) both ≡ (joined r rest >>= (λ ys. Ok (map g ys)))
  joined_then (Err n) rest both h = refl
  joined_then (Ok y) (Ok ys) both h = ap (joined (Ok (g y))) h
  joined_then (Ok y) (Err t) both h = ap (joined (Ok (g y))) h

  pub each_then : (xs : List A) → each (λ x. f x >>= (λ y. Ok (g y))) xs ≡ (each f xs >>= (λ ys. Ok (map g ys)))
  each_then [] = refl
  each_then (x ∷ xs) = joined_then (f x) (each f xs) (each (λ z. f z >>= (λ y. Ok (g y))) xs) (each_then xs)

-- ---- one answer for every item

pub each_value : {A B : Type 0} (v : B) (xs : List A) → each (λ _. let r : Result B FaultName = Ok v in r) xs ≡ Ok (map (λ _. v) xs)
each_value v [] = refl
each_value v (x ∷ xs) = ap (joined (Ok v)) (each_value v xs)

pub each_fault : {A B : Type 0} (n : FaultName) (xs : List A) → xs ≢ [] → each (λ _. let r : Result B FaultName = Err n in r) xs ≡ trouble n
each_fault n [] h = absurd (h refl)
each_fault n (x ∷ xs) h = refl
