-- Products of integers may be bracketed in either way.
use Rattle.std.proofs.Common.{◌≡◌, ◌*◌, ℕ, zero, suc, ℤ, pos, negsuc, neg_ℤ, ◌*ℤ◌, refl, sym, ap, ◌∙◌}
use Rattle.std.proofs.Math.Nat.{mul_assoc}
use Rattle.std.proofs.Math.IntN.{*ℤ_comm, zero-*ℤ}

neg_neg : (n : ℕ) → pos n ≡ neg_ℤ (neg_ℤ (pos n))
neg_neg zero = refl
neg_neg (suc n) = refl

neg-left : (a b : ℤ) → neg_ℤ a *ℤ b ≡ neg_ℤ (a *ℤ b)
neg-left (pos zero) b = zero-*ℤ b ∙ sym (ap neg_ℤ (zero-*ℤ b))
neg-left (pos (suc a)) (pos b) = refl
neg-left (pos (suc a)) (negsuc b) = neg_neg (suc a * suc b)
neg-left (negsuc a) (pos b) = neg_neg (suc a * b)
neg-left (negsuc a) (negsuc b) = refl

neg-right : (a b : ℤ) → a *ℤ neg_ℤ b ≡ neg_ℤ (a *ℤ b)
neg-right a b = *ℤ_comm a (neg_ℤ b) ∙ neg-left b a ∙ ap neg_ℤ (*ℤ_comm b a)

last_of : (a b : ℕ) (c : ℤ) → pos a *ℤ pos b *ℤ c ≡ pos a *ℤ (pos b *ℤ c)
last_of a b (pos c) = ap pos (mul_assoc a b c)
last_of a b (negsuc c) = ap (λ n. neg_ℤ (pos n)) (mul_assoc a b (suc c)) ∙ sym (neg-right (pos a) (pos (b * suc c)))

middle_of : (a : ℕ) (b c : ℤ) → pos a *ℤ b *ℤ c ≡ pos a *ℤ (b *ℤ c)
middle_of a (pos b) c = last_of a b c
middle_of a (negsuc b) c =
    neg-left (pos (a * suc b)) c ∙ ap neg_ℤ (last_of a (suc b) c) ∙ sym (neg-right (pos a) (pos (suc b) *ℤ c)) ∙ ap (λ z. pos a *ℤ z) (sym (neg-left (pos (suc b)) c))

pub *ℤ_assoc : (a b c : ℤ) → a *ℤ b *ℤ c ≡ a *ℤ (b *ℤ c)
*ℤ_assoc (pos a) b c = middle_of a b c
*ℤ_assoc (negsuc a) b c =
    ap (λ z. z *ℤ c) (neg-left (pos (suc a)) b) ∙ neg-left (pos (suc a) *ℤ b) c ∙ ap neg_ℤ (middle_of (suc a) b c) ∙ sym (neg-left (pos (suc a)) (b *ℤ c))
