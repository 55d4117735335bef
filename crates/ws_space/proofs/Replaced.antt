-- Replacement at targets, and targets that repeat.
use Rattle.std.proofs.Common.{◌≡◌, ◌≢◌, ℕ, zero, suc, ◌+◌, ◌<◌, ◌==◌, Bool, true, false, ◌||◌, if◌then◌else◌, List, [], ◌∷◌, take, length, get_or, Some, None, Option, MatchOption, ℤ, refl, sym, ap, ◌∙◌, ◌⊎◌, inl, inr, arith, eq-eqb}
use Rattle.std.specs.List.{Contains, slice_get}
use Rattle.std.specs.Option.{option_map}
use Rattle.std.proofs.lemmas.List.{get_or_default}
use Rattle.std.proofs.lemmas.Bool.{eqb-true}
use Rattle.std.proofs.lemmas.List.Kept.{AllPairs-cons}
use Rattle.ws_space.specs.Values.{stored_at, stored_from, is_among, repeat_after, first_repeat}
use Rattle.ws_space.specs.Laws.{KeepsOthers, AreApart, ReplacesTargets, RepeatsFirst, FindsRepeat}

-- ---- replacement

get_stored : (p : ℕ) (ts : List ℕ) (vs olds : List ℤ) (i : ℕ) → slice_get (stored_from p ts vs olds) i ≡ option_map (stored_at ts vs (p + i)) (slice_get olds i)
get_stored p ts vs [] i = refl
get_stored p ts vs (old ∷ olds) zero = let e : p + 0 ≡ p = omega arith in rw e refl
get_stored p ts vs (old ∷ olds) (suc i) =
    let e : suc p + i ≡ p + suc i = omega arith in
    get_stored (suc p) ts vs olds i ∙ rw e refl

contains_tail : {X : Type 0} (x : X) (xs : List X) (y : X) → Contains xs y → Contains (x ∷ xs) y
contains_tail x xs y c = (suc c.0, omega (arith, c.1), c.2)

contains_head : {X : Type 0} (x : X) (xs : List X) → Contains (x ∷ xs) x
contains_head x xs = (0, omega arith, refl)

apart_eqb : (a b : ℕ) → (a ≡ b → ⊥) → (a == b) ≡ false
apart_eqb a b h = cases (a == b) refl where
  cases : (t : Bool) → (a == b) ≡ t → (a == b) ≡ false
  cases true e = absurd (h (eqb-true a b e))
  cases false e = e

not_stored : (ts : List ℕ) (vs : List ℤ) (p : ℕ) (old : ℤ) → (Contains ts p → ⊥) → stored_at ts vs p old ≡ old
not_stored [] vs p old h = refl
not_stored (t ∷ ts) [] p old h = refl
not_stored (t ∷ ts) (v ∷ vs) p old h =
    let other : (t == p) ≡ false = apart_eqb t p (λ e. h (rw (← e) (contains_head t ts))) in
    rw other (not_stored ts vs p old (λ c. h (contains_tail t ts p c)))

same_value : (o : Option ℤ) (f : ℤ → ℤ) → ((z : ℤ) → f z ≡ z) → option_map f o ≡ o
same_value None f h = refl
same_value (Some z) f h = ap Some (h z)

pub KeepsOthers-all : (olds : List ℤ) (ts : List ℕ) (vs : List ℤ) (p : ℕ) → KeepsOthers olds ts vs p
KeepsOthers-all olds ts vs p h =
    let zero_p : 0 + p ≡ p = omega arith in
    get_stored 0 ts vs olds p ∙ rw zero_p (same_value (slice_get olds p) (stored_at ts vs p) (λ z. not_stored ts vs p z h))

apart_tail : (t : ℕ) (ts : List ℕ) → AreApart (t ∷ ts) → AreApart ts
apart_tail t ts h i j d p q = h (suc i) (suc j) d (omega arith) (omega arith)

get_or_at : (ts : List ℕ) (k t d : ℕ) → slice_get ts k ≡ Some t → (k < length ts) × (get_or ts k d ≡ t)
get_or_at [] k t d h = let f : ⊥ = cc in absurd f
get_or_at (u ∷ ts) zero t d h = (omega arith, cc)
get_or_at (u ∷ ts) (suc k) t d h = let r = get_or_at ts k t d h in (omega (arith, r.0), r.1)

stored_value : (ts : List ℕ) (vs : List ℤ) (k t : ℕ) (v old : ℤ) → AreApart ts → slice_get ts k ≡ Some t → slice_get vs k ≡ Some v → stored_at ts vs t old ≡ v
stored_value [] vs k t v old apart h g = let f : ⊥ = cc in absurd f
stored_value (u ∷ ts) [] k t v old apart h g = let f : ⊥ = cc in absurd f
stored_value (u ∷ ts) (w ∷ vs) zero t v old apart h g =
    let e : u ≡ t = cc in
    let f : w ≡ v = cc in
    rw (eq-eqb u t e) f
stored_value (u ∷ ts) (w ∷ vs) (suc k) t v old apart h g =
    let r = get_or_at ts k t 0 h in
    let differ : u ≢ get_or ts k 0 = apart 0 (suc k) 0 (omega arith) (omega (arith, r.0)) in
    let other : (u == t) ≡ false = apart_eqb u t (λ e. differ (e ∙ sym r.1)) in
    rw other (stored_value ts vs k t v old (apart_tail u ts apart) h g)

some_value : (olds : List ℤ) (i : ℕ) → i < length olds → (z : ℤ) × (slice_get olds i ≡ Some z)
some_value [] i h = absurd (omega arith)
some_value (z ∷ olds) zero h = (z, refl)
some_value (z ∷ olds) (suc i) h = some_value olds i (omega arith)

pub ReplacesTargets-all : (olds : List ℤ) (ts : List ℕ) (vs : List ℤ) (k t : ℕ) (v : ℤ) → ReplacesTargets olds ts vs k t v
ReplacesTargets-all olds ts vs k t v apart h g low =
    let old = some_value olds t low in
    let zero_t : 0 + t ≡ t = omega arith in
    get_stored 0 ts vs olds t ∙ rw (zero_t, old.1) (ap Some (stored_value ts vs k t v old.0 apart h g))

-- ---- targets that repeat

among_here : (t : ℕ) (us : List ℕ) → is_among t (t ∷ us) ≡ true
among_here t us = rw (eq-eqb t t refl) refl

or_true : (b : Bool) → (b || true) ≡ true
or_true true = refl
or_true false = refl

among_more : (t u : ℕ) (us : List ℕ) → is_among t us ≡ true → is_among t (u ∷ us) ≡ true
among_more t u us h = rw h (or_true (t == u))

among_cases : (t u : ℕ) (us : List ℕ) → is_among t (u ∷ us) ≡ true → (t ≡ u) ⊎ (is_among t us ≡ true)
among_cases t u us h = cases (t == u) refl h where
  cases : (b : Bool) → (t == u) ≡ b → (b || is_among t us) ≡ true → (t ≡ u) ⊎ (is_among t us ≡ true)
  cases true e h = inl (eqb-true t u e)
  cases false e h = inr h

-- none of these stands among those
abbrev Unseen : List ℕ → List ℕ → Type 0
Unseen seen ts = (u : ℕ) → is_among u seen ≡ true → Contains ts u → ⊥

unseen_cons : (seen : List ℕ) (t : ℕ) (ts : List ℕ) → is_among t seen ≡ false → Unseen (t ∷ seen) ts → Unseen seen (t ∷ ts)
unseen_cons seen t ts out rest u among (zero, low, e) = let f : is_among t seen ≡ true = rw e among in cc
unseen_cons seen t ts out rest u among (suc k, low, e) = rest u (among_more u t seen among) (k, omega arith, e)

apart_cons : (seen : List ℕ) (t : ℕ) (ts : List ℕ) → AreApart ts → Unseen (t ∷ seen) ts → AreApart (t ∷ ts)
apart_cons seen t ts rest unseen =
    AllPairs-cons (λ a b. a ≢ b) t ts (λ k d low e. unseen t (among_here t seen) (k, low, default_free k d low e)) rest where
      default_free : (k d : ℕ) → k < length ts → t ≡ get_or ts k d → get_or ts k t ≡ t
      default_free k d low e = let same : get_or ts k t ≡ get_or ts k d = get_or_default ts k t d low in same ∙ sym e

pub apart_from_none : (seen : List ℕ) (k : ℕ) (ts : List ℕ) → repeat_after seen k ts ≡ None → AreApart ts × Unseen seen ts
apart_from_none seen k [] h = ((λ i j d p q. absurd (omega arith)), (λ u among c. absurd (omega (arith, c.1))))
apart_from_none seen k (t ∷ ts) h = step (is_among t seen) refl h (apart_from_none (t ∷ seen) (suc k) ts) where
  step : (b : Bool) → is_among t seen ≡ b → (if b then Some k else repeat_after (t ∷ seen) (suc k) ts) ≡ None → (repeat_after (t ∷ seen) (suc k) ts ≡ None → AreApart ts × Unseen (t ∷ seen) ts) → AreApart (t ∷ ts) × Unseen seen (t ∷ ts)
  step true e h more = let f : ⊥ = cc in absurd f
  step false e h more = let r = more h in (apart_cons seen t ts r.0 r.1, unseen_cons seen t ts e r.1)

record RepeatsAt (seen ts : List ℕ) (k m : ℕ) : Type 0 where
  place : ℕ
  target : ℕ
  place_is : m ≡ k + place
  here : slice_get ts place ≡ Some target
  seen_before : (is_among target seen ≡ true) ⊎ ((j : ℕ) × (j < place) × (slice_get ts j ≡ Some target))
  apart : AreApart (take place ts)
  unseen : Unseen seen (take place ts)

none_contained : {P : Type 0} (u : ℕ) → Contains [] u → P
none_contained u c = absurd (omega (arith, c.1))

repeats : (seen : List ℕ) (k m : ℕ) (ts : List ℕ) → repeat_after seen k ts ≡ Some m → RepeatsAt seen ts k m
repeats seen k m [] h = let f : ⊥ = cc in absurd f
repeats seen k m (t ∷ ts) h = step (is_among t seen) refl h (repeats (t ∷ seen) (suc k) m ts) where
  moved : (target place : ℕ) → is_among t seen ≡ false → (is_among target (t ∷ seen) ≡ true) ⊎ ((j : ℕ) × (j < place) × (slice_get ts j ≡ Some target)) → (is_among target seen ≡ true) ⊎ ((j : ℕ) × (j < suc place) × (slice_get (t ∷ ts) j ≡ Some target))
  moved target place out (inl among) = elim (among_cases target t seen among) [ inl e ↦ inr (0, omega arith, ap Some (sym e)) | inr a ↦ inl a ]
  moved target place out (inr j) = inr (suc j.0, omega (arith, j.1), j.2)

  step : (b : Bool) → is_among t seen ≡ b → (if b then Some k else repeat_after (t ∷ seen) (suc k) ts) ≡ Some m → (repeat_after (t ∷ seen) (suc k) ts ≡ Some m → RepeatsAt (t ∷ seen) ts (suc k) m) → RepeatsAt seen (t ∷ ts) k m
  step true e h more =
      let at : k ≡ m = cc in
      record { place = 0; target = t; place_is = omega arith; here = refl; seen_before = inl e; apart = λ i j d p q. absurd (omega arith); unseen = λ u among c. none_contained u c }
  step false e h more =
      let r = more h in
      record {
        place = suc r.place;
        target = r.target;
        place_is = omega (arith, r.place_is);
        here = r.here;
        seen_before = moved r.target r.place e r.seen_before;
        apart = apart_cons seen t (take r.place ts) r.apart r.unseen;
        unseen = unseen_cons seen t (take r.place ts) e r.unseen;
      }

not_seen : (t : ℕ) → is_among t [] ≡ true → ⊥
not_seen t h = cc

pub FindsRepeat-all : (ts : List ℕ) → FindsRepeat ts
FindsRepeat-all ts = cases (first_repeat ts) refl where
  found : (m : ℕ) → RepeatsAt [] ts 0 m → RepeatsFirst ts m
  found m r = elim r.seen_before [
    | inl among ↦ absurd (not_seen r.target among)
    | inr j ↦ let at : r.place ≡ m = omega (arith, r.place_is) in
        record { target = r.target; earlier = j.0; is_earlier = omega (arith, j.1); stands_earlier = j.2; stands_here = rw (← at) r.here; before = rw (← at) r.apart }
  ]

  cases : (o : Option ℕ) → first_repeat ts ≡ o → MatchOption o (AreApart ts) (RepeatsFirst ts)
  cases None e = (apart_from_none [] 0 ts e).0
  cases (Some m) e = found m (repeats [] 0 m ts e)
