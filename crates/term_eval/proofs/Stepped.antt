-- `l + k * s` in 64 bits.
use Rattle.std.proofs.Common.{◌≡◌, ℕ, ◌≤◌, ◌<◌, ◌*◌, ◌^◌, ℤ, pos, ◌+ℤ◌, ◌-ℤ◌, ◌*ℤ◌, unsigned_abs, FitsSigned, to_z, of_z, w32, w64, sym, ap, subst, ◌∙◌, arith}
use Rattle.std.specs.Int.{w128}
use Rattle.std.proofs.Math.Nat.{mul-le-mul_left}
use Rattle.std.proofs.lemmas.Int.{ints, to_z-of_z, fits_signed_from_abs, unsigned_abs-mul}

pub small : (z : ℤ) → FitsSigned w32 z → unsigned_abs z ≤ 2147483648
small z h = omega (arith, ints)

pub wide : (z : ℤ) → FitsSigned w32 z → FitsSigned w64 z
wide z h = fits_signed_from_abs w64 z (omega (arith, small z h))

product-below : (k : ℕ) (s : ℤ) → FitsSigned w32 s → unsigned_abs (pos k *ℤ s) ≤ k * 2147483648
product-below k s f =
    let e = unsigned_abs-mul (pos k) s in
    let a : k * unsigned_abs s ≤ k * 2147483648 = mul-le-mul_left k (small s f) in
    omega (arith, e, a)

product-small : (k : ℕ) (s : ℤ) → k < 2 ^ 32 → FitsSigned w32 s → unsigned_abs (pos k *ℤ s) ≤ 9223372034707292160
product-small k s h f = omega (arith, product-below k s f, h)

sum-fits : (l p : ℤ) → FitsSigned w32 l → unsigned_abs p ≤ 9223372034707292160 → FitsSigned w64 (l +ℤ p)
sum-fits l p f h = omega (arith, ints)

pub stepped-is : (l s a b d : ℤ) (k : ℕ) → FitsSigned w32 l → FitsSigned w32 s → k < 2 ^ 32 → a ≡ to_z w32 (of_z w32 l) → b ≡ pos k → d ≡ to_z w32 (of_z w32 s) →
    to_z w64 (of_z w64 (to_z w64 (of_z w64 a) +ℤ to_z w64 (of_z w64 (to_z w64 (of_z w64 b) *ℤ to_z w64 (of_z w64 d))))) ≡ l +ℤ pos k *ℤ s
stepped-is l s a b d k fl fs low ea eb ed =
    let la : to_z w64 (of_z w64 a) ≡ l = ap (λ z. to_z w64 (of_z w64 z)) (ea ∙ to_z-of_z w32 l fl) ∙ to_z-of_z w64 l (wide l fl) in
    let kb : to_z w64 (of_z w64 b) ≡ pos k = ap (λ z. to_z w64 (of_z w64 z)) eb ∙ to_z-of_z w64 (pos k) (fits_signed_from_abs w64 (pos k) (omega (arith, low))) in
    let sd : to_z w64 (of_z w64 d) ≡ s = ap (λ z. to_z w64 (of_z w64 z)) (ed ∙ to_z-of_z w32 s fs) ∙ to_z-of_z w64 s (wide s fs) in
    let few : unsigned_abs (pos k *ℤ s) ≤ 9223372034707292160 = product-small k s low fs in
    let product : to_z w64 (of_z w64 (to_z w64 (of_z w64 b) *ℤ to_z w64 (of_z w64 d))) ≡ pos k *ℤ s =
    ap (λ z. to_z w64 (of_z w64 (z *ℤ to_z w64 (of_z w64 d)))) kb ∙ ap (λ z. to_z w64 (of_z w64 (pos k *ℤ z))) sd ∙ to_z-of_z w64 (pos k *ℤ s) (fits_signed_from_abs w64 (pos k *ℤ s) (omega (arith, few))) in
    ap (λ z. to_z w64 (of_z w64 (z +ℤ to_z w64 (of_z w64 (to_z w64 (of_z w64 b) *ℤ to_z w64 (of_z w64 d)))))) la
    ∙ ap (λ z. to_z w64 (of_z w64 (l +ℤ z))) product
    ∙ to_z-of_z w64 (l +ℤ pos k *ℤ s) (sum-fits l (pos k *ℤ s) fl few)

-- ---- the last of the subscripts, in 128 bits

wider : (z : ℤ) → FitsSigned w32 z → FitsSigned w128 z
wider z h = fits_signed_from_abs w128 z (omega (arith, small z h))

product-within : (n : ℕ) (s : ℤ) → n < 2 ^ 64 → FitsSigned w32 s → unsigned_abs (pos n *ℤ s) ≤ 39614081257132168796771975168
product-within n s h f = omega (arith, product-below n s f, h)

sum-within : (l p : ℤ) → FitsSigned w32 l → unsigned_abs p ≤ 39614081257132168796771975168 → unsigned_abs (l +ℤ p) ≤ 39614081257132168798919458816
sum-within l p f h = omega (arith, ints)

difference-within : (p s : ℤ) → FitsSigned w32 s → unsigned_abs p ≤ 39614081257132168798919458816 → unsigned_abs (p -ℤ s) ≤ 39614081257132168801066942464
difference-within p s f h = omega (arith, ints)

module _ (l s a b d : ℤ) (n : ℕ) (fl : FitsSigned w32 l) (fs : FitsSigned w32 s) (low : n < 2 ^ 64) (ea : a ≡ to_z w32 (of_z w32 l)) (eb : b ≡ pos n) (ed : d ≡ to_z w32 (of_z w32 s)) where
  first_is : to_z w128 (of_z w128 a) ≡ l
  first_is = ap (λ z. to_z w128 (of_z w128 z)) (ea ∙ to_z-of_z w32 l fl) ∙ to_z-of_z w128 l (wider l fl)

  count_is : to_z w128 (of_z w128 b) ≡ pos n
  count_is = ap (λ z. to_z w128 (of_z w128 z)) eb ∙ to_z-of_z w128 (pos n) (fits_signed_from_abs w128 (pos n) (omega (arith, low)))

  stride_is : to_z w128 (of_z w128 d) ≡ s
  stride_is = ap (λ z. to_z w128 (of_z w128 z)) (ed ∙ to_z-of_z w32 s fs) ∙ to_z-of_z w128 s (wider s fs)

  product_is : to_z w128 (of_z w128 (to_z w128 (of_z w128 b) *ℤ to_z w128 (of_z w128 d))) ≡ pos n *ℤ s
  product_is =
      ap (λ z. to_z w128 (of_z w128 (z *ℤ to_z w128 (of_z w128 d)))) count_is ∙ ap (λ z. to_z w128 (of_z w128 (pos n *ℤ z))) stride_is
      ∙ to_z-of_z w128 (pos n *ℤ s) (fits_signed_from_abs w128 (pos n *ℤ s) (omega (arith, product-within n s low fs)))

  sum_is : to_z w128 (of_z w128 (to_z w128 (of_z w128 a) +ℤ to_z w128 (of_z w128 (to_z w128 (of_z w128 b) *ℤ to_z w128 (of_z w128 d))))) ≡ l +ℤ pos n *ℤ s
  sum_is =
      ap (λ z. to_z w128 (of_z w128 (z +ℤ to_z w128 (of_z w128 (to_z w128 (of_z w128 b) *ℤ to_z w128 (of_z w128 d)))))) first_is ∙ ap (λ z. to_z w128 (of_z w128 (l +ℤ z))) product_is
      ∙ to_z-of_z w128 (l +ℤ pos n *ℤ s) (fits_signed_from_abs w128 (l +ℤ pos n *ℤ s) (omega (arith, sum-within l (pos n *ℤ s) fl (product-within n s low fs))))

  whole_is : to_z w128 (of_z w128 (to_z w128 (of_z w128 a) +ℤ to_z w128 (of_z w128 (to_z w128 (of_z w128 b) *ℤ to_z w128 (of_z w128 d))))) -ℤ to_z w128 (of_z w128 d) ≡ l +ℤ pos n *ℤ s -ℤ s
  whole_is = ap (λ z. z -ℤ to_z w128 (of_z w128 d)) sum_is ∙ ap (λ z. l +ℤ pos n *ℤ s -ℤ z) stride_is

  last_fits : FitsSigned w128 (l +ℤ pos n *ℤ s -ℤ s)
  last_fits = fits_signed_from_abs w128 (l +ℤ pos n *ℤ s -ℤ s) (omega (arith, difference-within (l +ℤ pos n *ℤ s) s fs (sum-within l (pos n *ℤ s) fl (product-within n s low fs))))

  pub last-fits : FitsSigned w128 (to_z w128 (of_z w128 (to_z w128 (of_z w128 a) +ℤ to_z w128 (of_z w128 (to_z w128 (of_z w128 b) *ℤ to_z w128 (of_z w128 d))))) -ℤ to_z w128 (of_z w128 d))
  last-fits = subst (FitsSigned w128) (sym whole_is) last_fits

  pub last-is : to_z w128 (of_z w128 (to_z w128 (of_z w128 (to_z w128 (of_z w128 a) +ℤ to_z w128 (of_z w128 (to_z w128 (of_z w128 b) *ℤ to_z w128 (of_z w128 d))))) -ℤ to_z w128 (of_z w128 d))) ≡ l +ℤ pos n *ℤ s -ℤ s
  last-is = ap (λ z. to_z w128 (of_z w128 z)) whole_is ∙ to_z-of_z w128 (l +ℤ pos n *ℤ s -ℤ s) last_fits
