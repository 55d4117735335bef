-- The values that a DO variable takes lie between the first and the limit.
use Rattle.std.proofs.Common.{◌≡◌, ◌≢◌, refl, sym, ap, ◌∙◌, subst, ℕ, zero, suc, ◌+◌, ◌*◌, ◌<◌, ◌≤◌, ◌^◌, Bool, true, false, map, length, get_or, All, ℤ, pos, negsuc, neg_ℤ, ◌+ℤ◌, ◌-ℤ◌, ◌*ℤ◌, ◌≤ℤ◌, unsigned_abs, FitsSigned, to_z, of_z, w32, w64, arith}
use Rattle.std.specs.Prelude.{nat_lt, int_le, int_lt}
use Rattle.std.proofs.lemmas.Bool.{lt-ltb, ltb-true}
use Rattle.std.proofs.lemmas.Int.{ints, fits_signed_from_abs, to_z-of_z}
use Rattle.std.proofs.lemmas.List.Elements.{filter_passes, All-get_or}
use Rattle.ws_base.specs.Numbers.{in_range, default_half}
use Rattle.ws_space.specs.declared.shape.Triplet.{Triplet}
use Rattle.ws_space.specs.Shapes.{count, places_from}
use Rattle.ws_space.specs.Subscripts.{is_up_to_end, stepped, selected}
use Rattle.ws_space.proofs.Counts.{length-selected, get_or-selected}
use Rattle.ws_space.proofs.Distances.{true_le}
use Rattle.term_eval.specs.Limits.{IsInteger}

-- ---- default integers

pub integer_from : (z : ℤ) → neg_ℤ (pos 2147483648) ≤ℤ z → z ≤ℤ pos 2147483647 → IsInteger z
integer_from (pos n) low high = lt-ltb n 2147483648 (omega (arith, ints))
integer_from (negsuc n) low high = lt-ltb n 2147483648 (omega (arith, ints))

-- ---- between the ends

up_to_end : (t : Triplet) (k : ℕ) → t.s ≢ pos 0 → k < count t → is_up_to_end t (stepped t k) ≡ true
up_to_end t k h low =
    let P : ℤ → Type 0 = λ z. is_up_to_end t z ≡ true in
    let all : All P (selected t) = filter_passes (is_up_to_end t) (map (stepped t) (places_from 0 (suc (unsigned_abs (t.u -ℤ t.l))))) in
    subst P (get_or-selected t k (pos 0) h low) (All-get_or P (selected t) k (pos 0) (omega (arith, low, length-selected t h)) all)

lt_true : (m : ℕ) → int_lt (pos 0) (pos (suc m)) ≡ true
lt_true m = lt-ltb 0 (suc m) (omega arith)

between : (l u s : ℤ) (k : ℕ) → s ≢ pos 0 → is_up_to_end (record { l = l; u = u; s = s }) (l +ℤ pos k *ℤ s) ≡ true → FitsSigned w32 l → FitsSigned w32 u → IsInteger (l +ℤ pos k *ℤ s)
between l u (pos zero) k h e fl fu = absurd (h refl)
between l u (pos (suc m)) k h e fl fu =
    let b : (l +ℤ pos (k * suc m)) ≤ℤ u = true_le _ _ (rw (lt_true m) at e) in
    integer_from (l +ℤ pos (k * suc m)) (omega (arith, ints)) (omega (arith, ints))
between l u (negsuc m) k h e fl fu =
    let b : u ≤ℤ (l +ℤ neg_ℤ (pos (k * suc m))) = true_le _ _ e in
    integer_from (l +ℤ neg_ℤ (pos (k * suc m))) (omega (arith, ints)) (omega (arith, ints))

pub value_integer : (t : Triplet) (k : ℕ) → t.s ≢ pos 0 → k < count t → FitsSigned w32 t.l → FitsSigned w32 t.u → IsInteger (stepped t k)
value_integer t k h low fl fu = between t.l t.u t.s k h (up_to_end t k h low) fl fu

-- ---- from one value to the next

next_product : (k : ℕ) (s : ℤ) → pos (k + 1) *ℤ s ≡ pos k *ℤ s +ℤ s
next_product k (pos m) = omega (arith, ints)
next_product k (negsuc m) = omega (arith, ints)

pub next_value : (t : Triplet) (k : ℕ) → stepped t (k + 1) ≡ stepped t k +ℤ t.s
next_value t k = let e = next_product k t.s in omega (arith, ints)

pub first_value : (t : Triplet) → stepped t 0 ≡ t.l
first_value t = first t.l t.s where
  first : (l s : ℤ) → l +ℤ pos 0 *ℤ s ≡ l
  first l (pos m) = omega (arith, ints)
  first l (negsuc m) = omega (arith, ints)

-- ---- in 64 bits

small : (z : ℤ) → FitsSigned w32 z → unsigned_abs z ≤ 2147483648
small z h = omega (arith, ints)

wide : (z : ℤ) → FitsSigned w32 z → FitsSigned w64 z
wide z h = fits_signed_from_abs w64 z (omega (arith, small z h))

integer_small : (z : ℤ) → IsInteger z → unsigned_abs z ≤ 2147483648
integer_small (pos n) h = omega (arith, ltb-true n 2147483648 h)
integer_small (negsuc n) h = omega (arith, ltb-true n 2147483648 h)

pub widened : (z a : ℤ) → FitsSigned w32 z → a ≡ to_z w32 (of_z w32 z) → to_z w64 (of_z w64 a) ≡ z
widened z a f e = ap (λ y. to_z w64 (of_z w64 y)) (e ∙ to_z-of_z w32 z f) ∙ to_z-of_z w64 z (wide z f)

sum_small : (v s : ℤ) → unsigned_abs v ≤ 2147483648 → unsigned_abs s ≤ 2147483648 → unsigned_abs (v +ℤ s) ≤ 4294967296
sum_small v s h k = omega (arith, ints)

sum_fits : (v s : ℤ) → IsInteger v → FitsSigned w32 s → FitsSigned w64 (v +ℤ s)
sum_fits v s h f = fits_signed_from_abs w64 (v +ℤ s) (omega (arith, sum_small v s (integer_small v h) (small s f)))

pub next_fits : (v s a : ℤ) → IsInteger v → FitsSigned w32 s → a ≡ to_z w32 (of_z w32 s) → FitsSigned w64 (v +ℤ to_z w64 (of_z w64 a))
next_fits v s a h f e = let P : ℤ → Type 0 = λ y. FitsSigned w64 (v +ℤ y) in subst P (sym (widened s a f e)) (sum_fits v s h f)

pub next_is : (t : Triplet) (k : ℕ) (v a : ℤ) → v ≡ stepped t k → IsInteger v → FitsSigned w32 t.s → a ≡ to_z w32 (of_z w32 t.s) → to_z w64 (of_z w64 (v +ℤ to_z w64 (of_z w64 a))) ≡ stepped t (k + 1)
next_is t k v a is h f e =
    ap (λ y. to_z w64 (of_z w64 (v +ℤ y))) (widened t.s a f e) ∙ to_z-of_z w64 (v +ℤ t.s) (sum_fits v t.s h f) ∙ ap (λ y. y +ℤ t.s) is ∙ sym (next_value t k)
