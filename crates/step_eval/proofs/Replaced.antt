-- Replacement, target by target, and the targets seen so far.
use Rattle.std.proofs.Common.{◌≡◌, ℕ, zero, suc, ◌+◌, ◌-◌, ◌<◌, ◌≤◌, ◌==◌, ◌⊎◌, inl, inr, min, All, Bool, true, false, ◌||◌, if◌then◌else◌, List, [], ◌∷◌, length, drop, get_or, replicate, Option, Some, None, ℤ, pos, refl, sym, ap, ◌∙◌, arith, eq-eqb, add-one, length-set, get_or-set_same, get_or-set_other}
use Rattle.std.proofs.lemmas.List.{drop_more}
use Rattle.std.proofs.Math.ListN.{drop_of_length-le}
use Rattle.std.proofs.Math.ListN.{set}
use Rattle.std.proofs.lemmas.Bool.{eqb-true}
use Rattle.ws_space.specs.Values.{stored_at, stored_from, stored, is_among, repeat_after}

pub apart_eqb : (a b : ℕ) → (a ≡ b → ⊥) → (a == b) ≡ false
apart_eqb a b h = cases (a == b) refl where
  cases : (t : Bool) → (a == b) ≡ t → (a == b) ≡ false
  cases true e = absurd (h (eqb-true a b e))
  cases false e = e

trichotomy : (a b : ℕ) → (a < b) ⊎ (b ≤ a)
trichotomy a b = grind arith

set_outside : (xs : List ℤ) (i : ℕ) (v : ℤ) → length xs ≤ i → set xs i v ≡ xs
set_outside [] i v h = refl
set_outside (x ∷ xs) zero v h = absurd (omega (arith, h))
set_outside (x ∷ xs) (suc i) v h = ap (λ l. x ∷ l) (set_outside xs i v (omega (arith, h)))

pub least_reached : (a b n : ℕ) → n ≡ min a b → (a ≤ n) ⊎ (b ≤ n)
least_reached a b n e = grind (arith, e)

-- ---- one target more, in front of the others

beyond : (t q : ℕ) (v : ℤ) (ts : List ℕ) (vs olds : List ℤ) → t < q → stored_from q (t ∷ ts) (v ∷ vs) olds ≡ stored_from q ts vs olds
beyond t q v ts vs [] h = refl
beyond t q v ts vs (old ∷ olds) h =
    let other : (t == q) ≡ false = apart_eqb t q (λ e. omega (arith, h, e)) in
    rw (other, beyond t (suc q) v ts vs olds (omega (arith, h))) refl

stored_front : (q t k : ℕ) (v : ℤ) (ts : List ℕ) (vs olds : List ℤ) → t ≡ q + k → k < length olds → stored_from q (t ∷ ts) (v ∷ vs) olds ≡ set (stored_from q ts vs olds) k v
stored_front q t k v ts vs [] e h = absurd (omega (arith, h))
stored_front q t zero v ts vs (old ∷ olds) e h =
    let here : (t == q) ≡ true = eq-eqb t q (omega (arith, e)) in
    rw (here, beyond t (suc q) v ts vs olds (omega (arith, e))) refl
stored_front q t (suc k) v ts vs (old ∷ olds) e h =
    let other : (t == q) ≡ false = apart_eqb t q (λ f. omega (arith, e, f)) in
    rw (other, stored_front (suc q) t k v ts vs olds (omega (arith, e)) (omega (arith, h))) refl

-- a target that is no place of the array
stored_outside : (q t : ℕ) (v : ℤ) (ts : List ℕ) (vs olds : List ℤ) → q + length olds ≤ t → stored_from q (t ∷ ts) (v ∷ vs) olds ≡ stored_from q ts vs olds
stored_outside q t v ts vs [] h = refl
stored_outside q t v ts vs (old ∷ olds) h =
    let other : (t == q) ≡ false = apart_eqb t q (λ e. omega (arith, h, e)) in
    rw (other, stored_outside (suc q) t v ts vs olds (omega (arith, h))) refl

length-from : (q : ℕ) (ts : List ℕ) (vs olds : List ℤ) → length (stored_from q ts vs olds) ≡ length olds
length-from q ts vs [] = refl
length-from q ts vs (old ∷ olds) = ap suc (length-from (suc q) ts vs olds)

pub one_more : (t : ℕ) (v : ℤ) (ts : List ℕ) (vs olds : List ℤ) → stored olds (t ∷ ts) (v ∷ vs) ≡ set (stored olds ts vs) t v
one_more t v ts vs olds = elim (trichotomy t (length olds)) [ inl h ↦ stored_front 0 t t v ts vs olds (omega arith) h | inr h ↦ stored_outside 0 t v ts vs olds (omega (arith, h)) ∙ sym (set_outside (stored olds ts vs) t v (omega (arith, h, length-from 0 ts vs olds))) ]

none_from : (q : ℕ) (ts : List ℕ) (vs olds : List ℤ) → (ts ≡ []) ⊎ (vs ≡ []) → stored_from q ts vs olds ≡ olds
none_from q ts vs [] h = refl
none_from q ts vs (old ∷ olds) h = rw none (ap (λ l. old ∷ l) (none_from (suc q) ts vs olds h)) where
  none : stored_at ts vs q old ≡ old
  none = elim h [ inl e ↦ rw e refl | inr e ↦ rw e (empty ts) ] where
    empty : (us : List ℕ) → stored_at us [] q old ≡ old
    empty [] = refl
    empty (u ∷ us) = refl

-- ---- the targets seen

-- the marks say which places are among these
abbrev pub Marks : List Bool → List ℕ → Type 0
Marks marks seen = (p : ℕ) → p < length marks → get_or marks p false ≡ is_among p seen

-- ---- steps of the loops

shorter_empty : (ts : List ℕ) (xs : List ℤ) (n : ℕ) → (length ts ≤ n) ⊎ (length xs ≤ n) → (drop n ts ≡ []) ⊎ (drop n xs ≡ [])
shorter_empty ts xs n (inl h) = inl (drop_of_length-le ts h)
shorter_empty ts xs n (inr h) = inr (drop_of_length-le xs h)

pub store_start : (ts : List ℕ) (xs olds : List ℤ) (n : ℕ) → (length ts ≤ n) ⊎ (length xs ≤ n) → olds ≡ stored olds (drop n ts) (drop n xs)
store_start ts xs olds n h = sym (none_from 0 (drop n ts) (drop n xs) olds (shorter_empty ts xs n h))

pub store_step : (ts : List ℕ) (xs olds now : List ℤ) (i : ℕ) → 0 < i → i ≤ length ts → i ≤ length xs → now ≡ stored olds (drop i ts) (drop i xs) →
    set now (get_or ts (i - 1) 0) (get_or xs (i - 1) (pos 0)) ≡ stored olds (drop (i - 1) ts) (drop (i - 1) xs)
store_step ts xs olds now i low high h before =
    let j : ℕ = i - 1 in
    let e : j + 1 ≡ i = omega (arith, low) in
    let t : drop j ts ≡ get_or ts j 0 ∷ drop (j + 1) ts = drop_more ts j 0 (omega (arith, e, high)) in
    let x : drop j xs ≡ get_or xs j (pos 0) ∷ drop (j + 1) xs = drop_more xs j (pos 0) (omega (arith, e, h)) in
    let b : now ≡ stored olds (drop (j + 1) ts) (drop (j + 1) xs) = before ∙ sym (ap (λ k. stored olds (drop k ts) (drop k xs)) e) in
    ap (λ l. set l (get_or ts j 0) (get_or xs j (pos 0))) b
    ∙ (sym (one_more (get_or ts j 0) (get_or xs j (pos 0)) (drop (j + 1) ts) (drop (j + 1) xs) olds)
    ∙ sym (ap (λ l. stored olds l (drop j xs)) t ∙ ap (λ l. stored olds (get_or ts j 0 ∷ drop (j + 1) ts) l) x))

marks_step : (marks : List Bool) (seen : List ℕ) (t : ℕ) → t < length marks → Marks marks seen → Marks (set marks t true) (t ∷ seen)
marks_step marks seen t h m p low = cases (p == t) refl where
  n : length (set marks t true) ≡ length marks
  n = length-set marks t true

  cases : (b : Bool) → (p == t) ≡ b → get_or (set marks t true) p false ≡ (p == t) || is_among p seen
  cases true e = let f : p ≡ t = eqb-true p t e in rw (e, f) (get_or-set_same marks t true false h)
  cases false e = rw e (get_or-set_other marks t p true false (λ f. let g : (p == t) ≡ true = eq-eqb p t f in cc) ∙ m p (omega (arith, low, n)))

pub seen_step : (marks : List Bool) (seen ts : List ℕ) (i : ℕ) (first : Option ℕ) → i < length ts → All (λ t. t < length marks) ts → Marks marks seen →
    get_or marks (get_or ts i 0) false ≡ false → first ≡ repeat_after seen i (drop i ts) →
    (more : List ℕ) × (first ≡ repeat_after more (i + 1) (drop (i + 1) ts)) × All (λ t. t < length (set marks (get_or ts i 0) true)) ts × Marks (set marks (get_or ts i 0) true) more
seen_step marks seen ts i first h places m not_marked before =
    let t : ℕ = get_or ts i 0 in
    let w : t < length marks = places i 0 h in
    let new : is_among t seen ≡ false = sym (m t w) ∙ not_marked in
    let front : drop i ts ≡ t ∷ drop (i + 1) ts = drop_more ts i 0 h in
    let n : length (set marks t true) ≡ length marks = length-set marks t true in (
      t ∷ seen,
      before ∙ (ap (λ l. repeat_after seen i l) front ∙ rw new (ap (λ k. repeat_after (t ∷ seen) k (drop (i + 1) ts)) (sym (add-one i)))),
      (λ k d l. omega (arith, n, places k d l)),
      marks_step marks seen t w m,
    )
