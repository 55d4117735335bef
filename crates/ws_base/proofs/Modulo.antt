-- MODULO is the remainder, moved by the divisor where their signs differ.
use Rattle.std.proofs.Common.{◌≡◌, ◌≢◌, false, ℕ, zero, suc, ◌<◌, ℤ, pos, negsuc, ◌+ℤ◌, ◌*ℤ◌, ◌≤ℤ◌, ◌<ℤ◌, not, ◌&&◌, ◌||◌, if◌then◌else◌, unsigned_abs, int_div, int_rem, refl, sym, arith}
use Rattle.std.specs.Prelude.{int_lt}
use Rattle.std.proofs.Math.Dec.{eqb-suc-zero}
use Rattle.std.proofs.Math.IntN.{pred_ℤ, pred_ℤ-*ℤ}
use Rattle.std.proofs.lemmas.Bool.{le-ltb}
use Rattle.std.proofs.lemmas.Int.{ints, quot-rem, rem_below}
use Rattle.ws_base.specs.Numbers.{int_eq, floor_rem}
use Rattle.ws_base.specs.Laws.{IsModulo}

abbrev moved : ℤ → ℤ → ℤ
moved r b = if int_eq r (pos 0) then r else (if int_lt r (pos 0) && int_lt b (pos 0) || not (int_lt r (pos 0)) && not (int_lt b (pos 0)) then r else r +ℤ b)

not_below : (n : ℕ) → int_lt (pos n) (pos 0) ≡ false
not_below n = le-ltb n 0 (omega arith)

module _ (a q b r : ℤ) (whole : q *ℤ b +ℤ r ≡ a) (near : unsigned_abs r < unsigned_abs b) where
  stays : (pos 0 <ℤ b → pos 0 ≤ℤ r) → (b <ℤ pos 0 → r ≤ℤ pos 0) → IsModulo a b r
  stays up down = record {
    quotient = q;
    differs = sym whole;
    above = λ h. let low : pos 0 ≤ℤ r = up h in (low, omega (arith, ints));
    below = λ h. let high : r ≤ℤ pos 0 = down h in (omega (arith, ints), high);
  }

  moves : (pos 0 <ℤ b → r <ℤ pos 0) → (b <ℤ pos 0 → pos 0 <ℤ r) → IsModulo a b (r +ℤ b)
  moves up down = record {
    quotient = pred_ℤ q;
    differs = rw (pred_ℤ-*ℤ q b) (omega (arith, ints));
    above = λ h. let low : r <ℤ pos 0 = up h in (omega (arith, ints), omega (arith, ints));
    below = λ h. let high : pos 0 <ℤ r = down h in (omega (arith, ints), omega (arith, ints));
  }

by_signs : (a q b r : ℤ) → q *ℤ b +ℤ r ≡ a → unsigned_abs r < unsigned_abs b → IsModulo a b (moved r b)
by_signs a q b (pos zero) whole near = stays a q b (pos 0) whole near (λ h. omega (arith, ints)) (λ h. omega (arith, ints))
by_signs a q (pos m) (pos (suc n)) whole near =
    rw (eqb-suc-zero n, not_below (suc n), not_below m) (stays a q (pos m) (pos (suc n)) whole near (λ h. omega (arith, ints)) (λ h. omega (arith, ints)))
by_signs a q (negsuc m) (pos (suc n)) whole near =
    rw (eqb-suc-zero n, not_below (suc n)) (moves a q (negsuc m) (pos (suc n)) whole near (λ h. omega (arith, ints)) (λ h. omega (arith, ints)))
by_signs a q (pos m) (negsuc n) whole near =
    rw (not_below m) (moves a q (pos m) (negsuc n) whole near (λ h. omega (arith, ints)) (λ h. omega (arith, ints)))
by_signs a q (negsuc m) (negsuc n) whole near = stays a q (negsuc m) (negsuc n) whole near (λ h. omega (arith, ints)) (λ h. omega (arith, ints))

some_size : (b : ℤ) → b ≢ pos 0 → 0 < unsigned_abs b
some_size (pos zero) h = absurd (h refl)
some_size (pos (suc n)) h = omega arith
some_size (negsuc n) h = omega arith

pub IsModulo-floor_rem : (a b : ℤ) → b ≢ pos 0 → IsModulo a b (floor_rem a b)
IsModulo-floor_rem a b h = by_signs a (int_div a b) b (int_rem a b) (quot-rem a b) (rem_below a b (some_size b h))
