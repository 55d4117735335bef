-- Two results that fault alike, or give what is related.
use Rattle.std.proofs.Common.{◌≡◌, refl, sym, ap, subst, ℕ, Some, Result, Ok, Err}
use Rattle.ws_base.specs.Outcomes.{Staged, ◌>>=◌}
use Rattle.ws_space.specs.Faults.{at_lines}

abbrev pub Same : {A B E : Type 0} → (A → B → Type 0) → Result A E → Result B E → Type 0
Same {B = B} R (Ok a) q = (b : B) × (q ≡ Ok b) × R a b
Same R (Err e) q = q ≡ Err e

pub same_then : {A B C D E : Type 0} (R : A → B → Type 0) (S : C → D → Type 0) (p : Result A E) (q : Result B E) (f : A → Result C E) (g : B → Result D E) → Same R p q →
    ((a : A) (b : B) → p ≡ Ok a → R a b → Same S (f a) (g b)) → Same S (p >>= f) (q >>= g)
same_then R S (Ok a) q f g h k = subst (λ r. Same S (f a) (r >>= g)) (sym h.1) (k a h.0 refl h.2)
same_then R S (Err e) q f g h k = ap (λ r. r >>= g) h

pub same_equal : {A E : Type 0} (p q : Result A E) → q ≡ p → Same (λ (a b : A). b ≡ a) p q
same_equal (Ok a) q h = (a, h, refl)
same_equal (Err e) q h = h

pub same_lines : {A B : Type 0} (R : A → B → Type 0) (line shape_line : ℕ) (p : Staged A) (q : Staged B) → Same R p q → Same R (at_lines line shape_line p) (at_lines line shape_line q)
same_lines R line shape_line (Ok a) q h = (h.0, ap (at_lines line shape_line) h.1, h.2)
same_lines R line shape_line (Err t) q h = ap (at_lines line shape_line) h

pub same_weaker : {A B E : Type 0} (R S : A → B → Type 0) (p : Result A E) (q : Result B E) → ((a : A) (b : B) → p ≡ Ok a → R a b → S a b) → Same R p q → Same S p q
same_weaker R S (Ok a) q k h = (h.0, h.1, k a h.0 refl h.2)
same_weaker R S (Err e) q k h = h

-- the same, and what it is
pub same_known : {A E : Type 0} (p q : Result A E) → q ≡ p → Same (λ (a b : A). (b ≡ a) × (p ≡ Ok a)) p q
same_known (Ok a) q h = (a, h, (refl, refl))
same_known (Err e) q h = h

-- ---- what stands in equal results

pub ok_same : {A E : Type 0} (x y : A) → (let r : Result A E = Ok x in r) ≡ Ok y → x ≡ y
ok_same x y h = cc

pub some_same : {A : Type 0} (x y : A) → Some x ≡ Some y → x ≡ y
some_same x y h = cc

abbrev pub IsOk : {A E : Type 0} → Result A E → Type 0
IsOk (Ok x) = Unit {0}
IsOk (Err e) = ⊥
