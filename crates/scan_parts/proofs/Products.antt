-- A product may be kept within its bound at each step.
use Rattle.std.proofs.Common.{◌≡◌, ℕ, zero, suc, ◌*◌, ◌<◌, ◌≤◌, min, ℤ, pos, negsuc, neg_ℤ, ◌*ℤ◌, refl, sym, ap, ◌∙◌, arith}
use mathlib.Core.Logic.{dite}
use native.Mathlib.Decide.{dec_le}
use Rattle.std.proofs.Math.IntN.{negsuc-*ℤ-pos, pos-*ℤ-negsuc, *ℤ_comm, *ℤ-zero, *ℤ-negsuc, neg_ℤ-neg_ℤ}
use Rattle.std.proofs.Math.Nat.{mul_assoc}
use Rattle.phase_ops.specs.Partials.{clamp}
use Rattle.scan_parts.proofs.Least.{clamp_pos, clamp_neg}

-- the lesser of k and a number is k times more or 0
bound : (k n c : ℕ) → 0 < k → min k (min k n * c) ≡ min k (n * c)
bound k n zero h = omega arith
bound k n (suc c) h = dite (dec_le n k)
    (λ l. ap (λ (x : ℕ). min k (x * suc c)) (let e : min k n ≡ n = omega (arith, l) in e))
    (λ g. let a : min k n ≡ k = omega (arith, g) in let x : k ≤ k * suc c = more k c in let y : n ≤ n * suc c = more n c in
    ap (λ (x : ℕ). min k (x * suc c)) a ∙ (let e : min k (k * suc c) ≡ min k (n * suc c) = omega (arith, x, y, g) in e))
  where
    more : (n c : ℕ) → n ≤ n * suc c
    more zero c = omega arith
    more (suc n) c = let r : n ≤ n * suc c = more n c in omega (arith, r)

next : (a b : ℕ) → suc (min a b) ≡ min (suc a) (suc b)
next a b = omega arith

clamp_minus : (half n : ℕ) → clamp half (neg_ℤ (pos n)) ≡ neg_ℤ (pos (min (suc half) n))
clamp_minus half zero =
    let e : min (suc half) 0 ≡ 0 = omega arith in
    clamp_pos half 0 ∙ ap (λ (n : ℕ). pos n) e ∙ sym (ap (λ (n : ℕ). neg_ℤ (pos n)) e)
clamp_minus half (suc n) = clamp_neg half n ∙ ap (λ (x : ℕ). neg_ℤ (pos x)) (next half n)

both_minus : (a b : ℕ) → negsuc a *ℤ negsuc b ≡ pos (suc a * suc b)
both_minus a b = refl

pub clamp_first : (half : ℕ) (a b : ℤ) → clamp half (clamp half a *ℤ b) ≡ clamp half (a *ℤ b)
clamp_first half (pos a) (pos b) =
    ap (λ (z : ℤ). clamp half (z *ℤ pos b)) (clamp_pos half a) ∙ clamp_pos half (min (suc half) a * b)
    ∙ ap (λ (n : ℕ). pos n) (bound (suc half) a b (omega arith)) ∙ sym (clamp_pos half (a * b))
clamp_first half (pos a) (negsuc b) =
    ap (λ (z : ℤ). clamp half (z *ℤ negsuc b)) (clamp_pos half a) ∙ ap (λ (z : ℤ). clamp half z) (pos-*ℤ-negsuc (min (suc half) a) b) ∙ clamp_minus half (min (suc half) a * suc b)
    ∙ ap (λ (n : ℕ). neg_ℤ (pos n)) (bound (suc half) a (suc b) (omega arith)) ∙ sym (clamp_minus half (a * suc b)) ∙ sym (ap (λ (z : ℤ). clamp half z) (pos-*ℤ-negsuc a b))
clamp_first half (negsuc a) (pos b) =
    ap (λ (z : ℤ). clamp half (z *ℤ pos b)) (clamp_neg half a) ∙ ap (λ (z : ℤ). clamp half z) (negsuc-*ℤ-pos (min half a) b) ∙ clamp_minus half (suc (min half a) * b)
    ∙ ap (λ (n : ℕ). neg_ℤ (pos (min (suc half) (n * b)))) (next half a)
    ∙ ap (λ (n : ℕ). neg_ℤ (pos n)) (bound (suc half) (suc a) b (omega arith)) ∙ sym (clamp_minus half (suc a * b)) ∙ sym (ap (λ (z : ℤ). clamp half z) (negsuc-*ℤ-pos a b))
clamp_first half (negsuc a) (negsuc b) =
    ap (λ (z : ℤ). clamp half (z *ℤ negsuc b)) (clamp_neg half a) ∙ ap (λ (z : ℤ). clamp half z) (both_minus (min half a) b) ∙ clamp_pos half (suc (min half a) * suc b)
    ∙ ap (λ (n : ℕ). pos (min (suc half) (n * suc b))) (next half a)
    ∙ ap (λ (n : ℕ). pos n) (bound (suc half) (suc a) (suc b) (omega arith)) ∙ sym (clamp_pos half (suc a * suc b)) ∙ sym (ap (λ (z : ℤ). clamp half z) (both_minus a b))

-- ---- products in any grouping

mul_minus : (a b : ℤ) → a *ℤ neg_ℤ b ≡ neg_ℤ (a *ℤ b)
mul_minus a (pos zero) = *ℤ-zero a ∙ sym (ap neg_ℤ (*ℤ-zero a))
mul_minus a (pos (suc n)) = *ℤ-negsuc a n
mul_minus a (negsuc n) = sym (neg_ℤ-neg_ℤ (a *ℤ pos (suc n))) ∙ sym (ap neg_ℤ (*ℤ-negsuc a n))

minus_mul : (a b : ℤ) → neg_ℤ a *ℤ b ≡ neg_ℤ (a *ℤ b)
minus_mul a b = *ℤ_comm (neg_ℤ a) b ∙ mul_minus b a ∙ ap neg_ℤ (*ℤ_comm b a)

naturals : (a : ℤ) (b c : ℕ) → a *ℤ pos b *ℤ pos c ≡ a *ℤ pos (b * c)
naturals (pos a) b c = ap (λ (n : ℕ). pos n) (mul_assoc a b c)
naturals (negsuc a) b c = ap (λ (z : ℤ). z *ℤ pos c) (negsuc-*ℤ-pos a b) ∙ minus_mul (pos (suc a * b)) (pos c) ∙ ap (λ (n : ℕ). neg_ℤ (pos n)) (mul_assoc (suc a) b c) ∙ sym (negsuc-*ℤ-pos a (b * c))

natural_last : (a b : ℤ) (c : ℕ) → a *ℤ b *ℤ pos c ≡ a *ℤ (b *ℤ pos c)
natural_last a (pos b) c = naturals a b c
natural_last a (negsuc b) c =
    ap (λ (z : ℤ). z *ℤ pos c) (*ℤ-negsuc a b) ∙ minus_mul (a *ℤ pos (suc b)) (pos c) ∙ ap neg_ℤ (naturals a (suc b) c)
    ∙ sym (mul_minus a (pos (suc b * c))) ∙ sym (ap (λ (z : ℤ). a *ℤ z) (negsuc-*ℤ-pos b c))

mul_assoc_all : (a b c : ℤ) → a *ℤ b *ℤ c ≡ a *ℤ (b *ℤ c)
mul_assoc_all a b (pos c) = natural_last a b c
mul_assoc_all a b (negsuc c) =
    *ℤ-negsuc (a *ℤ b) c ∙ ap neg_ℤ (natural_last a b (suc c)) ∙ sym (mul_minus a (b *ℤ pos (suc c))) ∙ sym (ap (λ (z : ℤ). a *ℤ z) (*ℤ-negsuc b c))

pub clamp_comm : (half : ℕ) (a b : ℤ) → clamp half (a *ℤ b) ≡ clamp half (b *ℤ a)
clamp_comm half a b = ap (λ (z : ℤ). clamp half z) (*ℤ_comm a b)

pub clamp_second : (half : ℕ) (a b : ℤ) → clamp half (a *ℤ clamp half b) ≡ clamp half (a *ℤ b)
clamp_second half a b = clamp_comm half a (clamp half b) ∙ clamp_first half b a ∙ clamp_comm half b a

pub clamp_assoc : (half : ℕ) (a b c : ℤ) → clamp half (clamp half (a *ℤ b) *ℤ c) ≡ clamp half (a *ℤ clamp half (b *ℤ c))
clamp_assoc half a b c = clamp_first half (a *ℤ b) c ∙ ap (λ (z : ℤ). clamp half z) (mul_assoc_all a b c) ∙ sym (clamp_second half a (b *ℤ c))
