-- Numbers whose magnitude is past the range of the kind.
use Rattle.std.proofs.Common.{◌≡◌, ◌≢◌, ◌<◌, ◌≤◌, ◌*◌, ◌%◌, ◌^◌, ◌==◌, ℕ, zero, suc, Bool, true, false, cond, ℤ, pos, negsuc, neg_ℤ, ◌*ℤ◌, unsigned_abs, Ok, Err, refl, sym, ◌∙◌, arith}
use Rattle.std.specs.Int.{int_pow}
use Rattle.std.proofs.Math.Nat.{mul-le-mul_left, pow-le-pow_left, pow-le-pow_right}
use Rattle.std.proofs.Math.IntN.{*ℤ-zero}
use Rattle.std.proofs.lemmas.Bool.{le-ltb}
use Rattle.std.proofs.lemmas.Int.{unsigned_abs-mul}
use Rattle.ws_base.specs.declared.fault.FaultName.TheVariants.{Overflow}
use Rattle.ws_base.specs.Numbers.{exact, default_half}
use Rattle.ws_base.proofs.Powers.{one_pow, zero_pow}

pub past : (half : ℕ) (z : ℤ) → half < unsigned_abs z → exact half z ≡ Err Overflow
past half (pos n) h = rw (le-ltb n half (omega (arith, h))) refl
past half (negsuc n) h = rw (le-ltb n half (omega (arith, h))) refl

-- ---- factors

more : (m a b : ℕ) → m < a → 0 < b → m < a * b
more m a b h k = let e : a * 1 ≤ a * b = mul-le-mul_left a k in omega (arith, e)

past-product : (p r : ℤ) → 2147483648 < unsigned_abs p → 0 < unsigned_abs r → exact default_half (p *ℤ r) ≡ Err Overflow
past-product p r h k = past default_half (p *ℤ r) (rw (unsigned_abs-mul p r) (more 2147483648 (unsigned_abs p) (unsigned_abs r) h k))

-- one factor past the range may stand for another, since only a factor 0 brings the product back
pub same_past : (p q r : ℤ) → 2147483648 < unsigned_abs p → 2147483648 < unsigned_abs q → exact default_half (p *ℤ r) ≡ exact default_half (q *ℤ r)
same_past p q (pos zero) h k = rw (*ℤ-zero p, *ℤ-zero q) refl
same_past p q (pos (suc n)) h k = past-product p (pos (suc n)) h (omega arith) ∙ sym (past-product q (pos (suc n)) k (omega arith))
same_past p q (negsuc n) h k = past-product p (negsuc n) h (omega arith) ∙ sym (past-product q (negsuc n) k (omega arith))

-- ---- powers with a great exponent

big : (m n : ℕ) → 32 ≤ n → 1 < m → 2147483648 < m ^ n
big m n h l =
    let base : 2 ^ n ≤ m ^ n = pow-le-pow_left l n in
    let low : 2 ^ 32 ≤ 2 ^ n = pow-le-pow_right {n = 2} (omega arith) h in
    omega (arith, base, low)

either : (b : Bool) (m : ℕ) → 2147483648 < m → exact default_half (cond b (pos m) (neg_ℤ (pos m))) ≡ Err Overflow
either b zero h = absurd (omega (arith, h))
either true (suc m) h = past default_half (pos (suc m)) h
either false (suc m) h = past default_half (negsuc m) h

pub great : (a : ℤ) (n : ℕ) → 32 ≤ n → 1 < unsigned_abs a → Err Overflow ≡ exact default_half (int_pow a n)
great (pos a) n h l = sym (past default_half (pos (a ^ n)) (big a n h l))
great (negsuc a) n h l = sym (either (n % 2 == 0) (suc a ^ n) (big (suc a) n h l))

no_power : (n : ℕ) → 32 ≤ n → 0 ^ n ≡ 0
no_power zero h = absurd (omega (arith, h))
no_power (suc n) h = zero_pow n

pub of_zero : (a : ℤ) (n : ℕ) → 32 ≤ n → unsigned_abs a ≡ 0 → Ok (pos 0) ≡ exact default_half (int_pow a n)
of_zero (pos a) n h e = rw (e, no_power n h) refl
of_zero (negsuc a) n h e = absurd (omega (arith, e))

pub even_of_one : (a : ℤ) (n : ℕ) → unsigned_abs a ≡ 1 → n % 2 ≡ 0 → Ok (pos 1) ≡ exact default_half (int_pow a n)
even_of_one (pos a) n e even = rw (e, one_pow n) refl
even_of_one (negsuc a) n e even = rw (e, even, one_pow n) refl

pub odd_of_one : (a : ℤ) (n : ℕ) → unsigned_abs a ≡ 1 → n % 2 ≢ 0 → Ok a ≡ exact default_half (int_pow a n)
odd_of_one (pos a) n e odd = rw (e, one_pow n) refl
odd_of_one (negsuc a) n e odd =
    let one : n % 2 ≡ 1 = omega arith in
    let least : a ≡ 0 = omega (arith, e) in
    rw (least, one, one_pow n) refl
