-- The last subscript of a triplet that goes down.
use Rattle.std.proofs.Common.{◌≡◌, ◌≢◌, sym, ap, ◌∙◌, subst, ℕ, suc, ◌*◌, ◌-◌, ◌<◌, ◌≤◌, ◌^◌, ℤ, pos, negsuc, ◌+ℤ◌, ◌-ℤ◌, ◌*ℤ◌, ◌≤ℤ◌, ◌<ℤ◌, unsigned_abs, true, map, length, w32, FitsSigned, to_z, of_z, arith, lit<}
use mir.Syntax.{Width, w128}
use Rattle.std.proofs.Math.Nat.{mul-le-mul}
use Rattle.std.proofs.lemmas.Int.{ints, to_z-of_z, fits_signed_mul, unsigned_abs-mul}
use Rattle.std.proofs.lemmas.List.Elements.{filter_passes, All-get_or}
use Rattle.ws_space.specs.declared.shape.Triplet.{Triplet}
use Rattle.ws_space.specs.Shapes.{count, places_from}
use Rattle.ws_space.specs.Subscripts.{is_up_to_end, stepped, selected}
use Rattle.ws_space.proofs.Counts.{length-selected, get_or-selected}
use Rattle.ws_space.proofs.Distances.{true_le}

goes_down : (t : Triplet) (x : ℤ) → t.s <ℤ pos 0 → is_up_to_end t x ≡ true → t.u ≤ℤ x
goes_down t x below e = at t.s below e where
  at : (s : ℤ) → s <ℤ pos 0 → is_up_to_end (record { l = t.l; u = t.u; s = s }) x ≡ true → t.u ≤ℤ x
  at (pos n) b e = absurd (omega (arith, ints))
  at (negsuc n) b e = true_le t.u x e

stays_below : (l s : ℤ) (k : ℕ) → s <ℤ pos 0 → (l +ℤ pos k *ℤ s) ≤ℤ l
stays_below l (pos n) k b = absurd (omega (arith, ints))
stays_below l (negsuc n) k b = omega (arith, ints)

not_zero : (t : Triplet) → t.s <ℤ pos 0 → t.s ≢ pos 0
not_zero t below e = omega (arith, ints)

last_above : (t : Triplet) (k : ℕ) → t.s <ℤ pos 0 → k < count t → t.u ≤ℤ stepped t k
last_above t k below within =
    let some : t.s ≢ pos 0 = not_zero t below in
    let here : k < length (selected t) = subst (λ (n : ℕ). k < n) (sym (length-selected t some)) within in
    let passes = All-get_or (λ x. is_up_to_end t x ≡ true) (selected t) k (pos 0) here (filter_passes (is_up_to_end t) (map (stepped t) (places_from 0 (suc (unsigned_abs (t.u -ℤ t.l)))))) in
    goes_down t (stepped t k) below (ap (is_up_to_end t) (sym (get_or-selected t k (pos 0) some within)) ∙ passes)

between : (l u z : ℤ) → FitsSigned w32 l → FitsSigned w32 u → u ≤ℤ z → z ≤ℤ l → FitsSigned w32 z
between l u z fl fu low high = omega (arith, ints)

pub last_fits : (t : Triplet) (n : ℕ) → t.s <ℤ pos 0 → n ≡ count t → 0 < n → FitsSigned w32 t.l → FitsSigned w32 t.u → FitsSigned w32 (stepped t (n - 1))
last_fits t n below is some fl fu = between t.l t.u (stepped t (n - 1)) fl fu (last_above t (n - 1) below (omega arith)) (stays_below t.l t.s (n - 1) below)

-- ---- as the code computes it

wide : (z : ℤ) → FitsSigned w32 z → FitsSigned w128 z
wide z f = omega (arith, ints)

sum_fits : (l p : ℤ) → FitsSigned w32 l → unsigned_abs p ≤ 2 ^ 64 * 2 ^ 31 → FitsSigned w128 (l +ℤ p)
sum_fits l p f small = omega (arith, ints)

product_fits : (n : ℕ) (s : ℤ) → n < 2 ^ 64 → FitsSigned w32 s → FitsSigned w128 (pos n *ℤ s)
product_fits n s fn fs = fits_signed_mul w128 (pos n) s (2 ^ 64) (2 ^ 31) (omega (arith, ints)) (omega (arith, ints)) (lit< tt)

product_small : (n : ℕ) (s : ℤ) → n < 2 ^ 64 → FitsSigned w32 s → unsigned_abs (pos n *ℤ s) ≤ 2 ^ 64 * 2 ^ 31
product_small n s fn fs =
    let left : unsigned_abs (pos n) ≤ 2 ^ 64 = omega (arith, ints) in
    let right : unsigned_abs s ≤ 2 ^ 31 = omega (arith, ints) in
    rw (unsigned_abs-mul (pos n) s) (mul-le-mul left right)

pub narrowed : (w : Width) (z x : ℤ) → z ≡ x → FitsSigned w x → to_z w (of_z w z) ≡ x
narrowed w z x e f = ap (λ y. to_z w (of_z w y)) e ∙ to_z-of_z w x f

pub computed : (l s a b c : ℤ) (n : ℕ) → FitsSigned w32 l → FitsSigned w32 s → n < 2 ^ 64 → a ≡ to_z w32 (of_z w32 l) → b ≡ pos n → c ≡ to_z w32 (of_z w32 s) →
    to_z w128 (of_z w128 (to_z w128 (of_z w128 a) +ℤ to_z w128 (of_z w128 (to_z w128 (of_z w128 b) *ℤ to_z w128 (of_z w128 c))))) ≡ l +ℤ pos n *ℤ s
computed l s a b c n fl fs fn ea eb ec =
    let first : to_z w128 (of_z w128 a) ≡ l = narrowed w128 a l (ea ∙ to_z-of_z w32 l fl) (wide l fl) in
    let second : to_z w128 (of_z w128 b) ≡ pos n = narrowed w128 b (pos n) eb (omega (arith, ints)) in
    let third : to_z w128 (of_z w128 c) ≡ s = narrowed w128 c s (ec ∙ to_z-of_z w32 s fs) (wide s fs) in
    let product : to_z w128 (of_z w128 (to_z w128 (of_z w128 b) *ℤ to_z w128 (of_z w128 c))) ≡ pos n *ℤ s =
    narrowed w128 (to_z w128 (of_z w128 b) *ℤ to_z w128 (of_z w128 c)) (pos n *ℤ s) (ap (λ x. x *ℤ to_z w128 (of_z w128 c)) second ∙ ap (λ x. pos n *ℤ x) third) (product_fits n s fn fs) in
    narrowed w128 (to_z w128 (of_z w128 a) +ℤ to_z w128 (of_z w128 (to_z w128 (of_z w128 b) *ℤ to_z w128 (of_z w128 c)))) (l +ℤ pos n *ℤ s)
    (ap (λ x. x +ℤ to_z w128 (of_z w128 (to_z w128 (of_z w128 b) *ℤ to_z w128 (of_z w128 c)))) first ∙ ap (λ x. l +ℤ x) product) (sum_fits l (pos n *ℤ s) fl (product_small n s fn fs))
