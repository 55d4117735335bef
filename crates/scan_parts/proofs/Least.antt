-- The lesser and the greater of two numbers, in any grouping.
use Rattle.std.proofs.Common.{◌≡◌, ℕ, suc, min, max, Bool, true, false, ℤ, pos, negsuc, refl, sym, ap, ◌∙◌, arith}
use Rattle.std.specs.Prelude.{int_le, if◌then◌else◌}
use Rattle.std.proofs.lemmas.Int.{ints}
use Rattle.ws_base.specs.Numbers.{int_min, int_max}

-- either branch is this number
picks : (t : Bool) (x y z : ℤ) → (t ≡ true → x ≡ z) → (t ≡ false → y ≡ z) → (if t then x else y) ≡ z
picks true x y z holds fails = holds refl
picks false x y z holds fails = fails refl

least_pos : (a b : ℕ) → int_min (pos a) (pos b) ≡ pos (min a b)
least_pos a b = picks (int_le (pos a) (pos b)) (pos a) (pos b) (pos (min a b)) (λ e. ap (λ (n : ℕ). pos n) (omega (arith, ints, e))) (λ e. ap (λ (n : ℕ). pos n) (omega (arith, ints, e)))

least_neg : (a b : ℕ) → int_min (negsuc a) (negsuc b) ≡ negsuc (max a b)
least_neg a b = picks (int_le (negsuc a) (negsuc b)) (negsuc a) (negsuc b) (negsuc (max a b)) (λ e. ap (λ (n : ℕ). negsuc n) (omega (arith, ints, e))) (λ e. ap (λ (n : ℕ). negsuc n) (omega (arith, ints, e)))

greatest_pos : (a b : ℕ) → int_max (pos a) (pos b) ≡ pos (max a b)
greatest_pos a b = picks (int_le (pos a) (pos b)) (pos b) (pos a) (pos (max a b)) (λ e. ap (λ (n : ℕ). pos n) (omega (arith, ints, e))) (λ e. ap (λ (n : ℕ). pos n) (omega (arith, ints, e)))

greatest_neg : (a b : ℕ) → int_max (negsuc a) (negsuc b) ≡ negsuc (min a b)
greatest_neg a b = picks (int_le (negsuc a) (negsuc b)) (negsuc b) (negsuc a) (negsuc (min a b)) (λ e. ap (λ (n : ℕ). negsuc n) (omega (arith, ints, e))) (λ e. ap (λ (n : ℕ). negsuc n) (omega (arith, ints, e)))

pub least_comm : (a b : ℤ) → int_min a b ≡ int_min b a
least_comm (pos a) (pos b) = least_pos a b ∙ ap (λ (n : ℕ). pos n) (omega arith) ∙ sym (least_pos b a)
least_comm (pos a) (negsuc b) = refl
least_comm (negsuc a) (pos b) = refl
least_comm (negsuc a) (negsuc b) = least_neg a b ∙ ap (λ (n : ℕ). negsuc n) (omega arith) ∙ sym (least_neg b a)

pub greatest_comm : (a b : ℤ) → int_max a b ≡ int_max b a
greatest_comm (pos a) (pos b) = greatest_pos a b ∙ ap (λ (n : ℕ). pos n) (omega arith) ∙ sym (greatest_pos b a)
greatest_comm (pos a) (negsuc b) = refl
greatest_comm (negsuc a) (pos b) = refl
greatest_comm (negsuc a) (negsuc b) = greatest_neg a b ∙ ap (λ (n : ℕ). negsuc n) (omega arith) ∙ sym (greatest_neg b a)

pub least_assoc : (a b c : ℤ) → int_min (int_min a b) c ≡ int_min a (int_min b c)
least_assoc (pos a) (pos b) (pos c) =
    ap (λ (z : ℤ). int_min z (pos c)) (least_pos a b) ∙ least_pos (min a b) c ∙ ap (λ (n : ℕ). pos n) (omega arith) ∙ sym (least_pos a (min b c)) ∙ sym (ap (λ (z : ℤ). int_min (pos a) z) (least_pos b c))
least_assoc (pos a) (pos b) (negsuc c) = ap (λ (z : ℤ). int_min z (negsuc c)) (least_pos a b)
least_assoc (pos a) (negsuc b) (pos c) = refl
least_assoc (pos a) (negsuc b) (negsuc c) = least_neg b c ∙ sym (ap (λ (z : ℤ). int_min (pos a) z) (least_neg b c))
least_assoc (negsuc a) (pos b) (pos c) = sym (ap (λ (z : ℤ). int_min (negsuc a) z) (least_pos b c))
least_assoc (negsuc a) (pos b) (negsuc c) = refl
least_assoc (negsuc a) (negsuc b) (pos c) = ap (λ (z : ℤ). int_min z (pos c)) (least_neg a b) ∙ sym (least_neg a b)
least_assoc (negsuc a) (negsuc b) (negsuc c) =
    ap (λ (z : ℤ). int_min z (negsuc c)) (least_neg a b) ∙ least_neg (max a b) c ∙ ap (λ (n : ℕ). negsuc n) (omega arith) ∙ sym (least_neg a (max b c)) ∙ sym (ap (λ (z : ℤ). int_min (negsuc a) z) (least_neg b c))

pub greatest_assoc : (a b c : ℤ) → int_max (int_max a b) c ≡ int_max a (int_max b c)
greatest_assoc (pos a) (pos b) (pos c) =
    ap (λ (z : ℤ). int_max z (pos c)) (greatest_pos a b) ∙ greatest_pos (max a b) c ∙ ap (λ (n : ℕ). pos n) (omega arith) ∙ sym (greatest_pos a (max b c)) ∙ sym (ap (λ (z : ℤ). int_max (pos a) z) (greatest_pos b c))
greatest_assoc (pos a) (pos b) (negsuc c) = ap (λ (z : ℤ). int_max z (negsuc c)) (greatest_pos a b) ∙ sym (greatest_pos a b)
greatest_assoc (pos a) (negsuc b) (pos c) = refl
greatest_assoc (pos a) (negsuc b) (negsuc c) = sym (ap (λ (z : ℤ). int_max (pos a) z) (greatest_neg b c))
greatest_assoc (negsuc a) (pos b) (pos c) = greatest_pos b c ∙ sym (ap (λ (z : ℤ). int_max (negsuc a) z) (greatest_pos b c))
greatest_assoc (negsuc a) (pos b) (negsuc c) = refl
greatest_assoc (negsuc a) (negsuc b) (pos c) = ap (λ (z : ℤ). int_max z (pos c)) (greatest_neg a b)
greatest_assoc (negsuc a) (negsuc b) (negsuc c) =
    ap (λ (z : ℤ). int_max z (negsuc c)) (greatest_neg a b) ∙ greatest_neg (min a b) c ∙ ap (λ (n : ℕ). negsuc n) (omega arith) ∙ sym (greatest_neg a (min b c)) ∙ sym (ap (λ (z : ℤ). int_max (negsuc a) z) (greatest_neg b c))

pub least_self : (a : ℤ) → int_min a a ≡ a
least_self (pos a) = least_pos a a ∙ ap (λ (n : ℕ). pos n) (omega arith)
least_self (negsuc a) = least_neg a a ∙ ap (λ (n : ℕ). negsuc n) (omega arith)

pub greatest_self : (a : ℤ) → int_max a a ≡ a
greatest_self (pos a) = greatest_pos a a ∙ ap (λ (n : ℕ). pos n) (omega arith)
greatest_self (negsuc a) = greatest_neg a a ∙ ap (λ (n : ℕ). negsuc n) (omega arith)

-- a product that is kept within a bound: of a number not below zero, and of one below
pub clamp_pos : (half n : ℕ) → int_max (negsuc half) (int_min (pos (suc half)) (pos n)) ≡ pos (min (suc half) n)
clamp_pos half n = ap (λ (z : ℤ). int_max (negsuc half) z) (least_pos (suc half) n)

pub clamp_neg : (half n : ℕ) → int_max (negsuc half) (int_min (pos (suc half)) (negsuc n)) ≡ negsuc (min half n)
clamp_neg half n = greatest_neg half n
