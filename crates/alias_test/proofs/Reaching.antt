-- Multiples of one step that another step divides, after a distance.
use Rattle.std.proofs.Common.{◌≡◌, sym, ap, ◌∙◌, subst, ℕ, ◌+◌, ◌*◌, ◌-◌, ◌/◌, ◌%◌, ◌<◌, ◌≤◌, arith}
use Rattle.std.specs.Int.{◌∣◌, IsGcd}
use Rattle.std.proofs.Math.Nat.{dvd-add, dvd-add_iff_left, dvd-add_iff_right, dvd-mul_right, dvd-mul_left_of_dvd, dvd-mul_right_of_dvd, mul-dvd-mul_left, dvd_of_mul-dvd-mul_left, pos_of_dvd_of_pos, div-add-mod, add-mul-mod_self_left, mul-div_cancel'}
use Rattle.std.proofs.lemmas.Nat.{le-div}
use Rattle.std.proofs.lemmas.Nat.Gcd.{dvd_trans, le_of_dvd, mod-eq-zero_of_dvd, dvd_of_mod-eq-zero}
use Rattle.alias_test.specs.Runs.{Reaches, IsLeastReach}

-- ---- a step of Euclid's algorithm

makes_next : (a b w0 w1 q d r1 r2 m j : ℕ) → d + w1 ≡ a → a * m + j ≡ w0 + q * d → a ∣ b * w0 + (r1 * q + r2) → a ∣ b * w1 + r1 → a ∣ b * j + r2
makes_next a b w0 w1 q d r1 r2 m j e f h0 h1 =
    let P : ℕ → Type 0 = λ x. a ∣ x in
    let multiple : a ∣ q * (b * w1 + r1) = dvd-mul_left_of_dvd a h1 q in
    let total : a * (b * q) + (b * w0 + (r1 * q + r2)) ≡ q * (b * w1 + r1) + (b * (w0 + q * d) + r2) = ap (λ x. x * (b * q) + (b * w0 + (r1 * q + r2))) (sym e) ∙ omega arith in
    let all : a ∣ q * (b * w1 + r1) + (b * (w0 + q * d) + r2) = subst P total (dvd-add a (dvd-mul_right a (b * q)) h0) in
    let one : a ∣ b * (w0 + q * d) + r2 = (dvd-add_iff_right a multiple).1 all in
    let split : b * (w0 + q * d) + r2 ≡ a * (b * m) + (b * j + r2) = ap (λ x. b * x + r2) (sym f) ∙ omega arith in
    (dvd-add_iff_right a (dvd-mul_right a (b * m))).1 (subst P split one)

pub makes-next : (a b w0 w1 r0 r1 j : ℕ) → w1 < a → a ∣ b * w0 + r0 → a ∣ b * w1 + r1 → j ≡ (w0 + r0 / r1 * (a - w1)) % a → a ∣ b * j + r0 % r1
makes-next a b w0 w1 r0 r1 j below h0 h1 e =
    let P : ℕ → Type 0 = λ x. a ∣ b * w0 + x in
    let parts : a * ((w0 + r0 / r1 * (a - w1)) / a) + j ≡ w0 + r0 / r1 * (a - w1) = ap (λ x. a * ((w0 + r0 / r1 * (a - w1)) / a) + x) e ∙ div-add-mod (w0 + r0 / r1 * (a - w1)) a in
    makes_next a b w0 w1 (r0 / r1) (a - w1) r1 (r0 % r1) ((w0 + r0 / r1 * (a - w1)) / a) j (omega arith) parts (subst P (sym (div-add-mod r0 r1)) h0) h1

pub makes_none : (a b : ℕ) → a ∣ b * 0 + a
makes_none a b = let P : ℕ → Type 0 = λ x. a ∣ x in subst P (omega arith) (dvd-mul_right a 1)

pub makes_one : (a b : ℕ) → 0 < a → a ∣ b * (a - 1) + b
makes_one a b some = let P : ℕ → Type 0 = λ x. a ∣ x in let d : (a - 1) + 1 ≡ a = omega arith in subst P (ap (λ x. x * b) (sym d) ∙ omega arith) (dvd-mul_right a b)

-- ---- where the divisor does not divide the distance

pub reaches_none : (a b g d : ℕ) → IsGcd a b g → (d % g ≡ 0 → ⊥) → (j : ℕ) → Reaches a b d j → ⊥
reaches_none a b g d gcd ne j h = ne (mod-eq-zero_of_dvd g ((dvd-add_iff_left g (dvd-mul_left_of_dvd g gcd.1 j)).1 (dvd_trans g gcd.0 h)))

-- ---- where it does

-- over steps without a common divisor
reaches : (a b d w : ℕ) → a ∣ b * w + 1 → a ∣ d + (w * d) % a * b
reaches a b d w h =
    let P : ℕ → Type 0 = λ x. a ∣ x in
    let split : (b * w + 1) * d ≡ a * (b * (w * d / a)) + (d + (w * d) % a * b) = omega arith ∙ ap (λ x. b * x + d) (sym (div-add-mod (w * d) a)) ∙ omega arith in
    (dvd-add_iff_right a (dvd-mul_right a (b * (w * d / a)))).1 (subst P split (dvd-mul_right_of_dvd a h d))

least : (a b d w k : ℕ) → a ∣ b * w + 1 → a ∣ d + k * b → (w * d) % a ≤ k
least a b d w k h reach =
    let x : a * (w * (d + k * b) / a) ≡ w * (d + k * b) = mul-div_cancel' a (dvd-mul_left_of_dvd a reach w) in
    let y : a * (k * (b * w + 1) / a) ≡ k * (b * w + 1) = mul-div_cancel' a (dvd-mul_left_of_dvd a h k) in
    let same : w * d + a * (k * (b * w + 1) / a) ≡ k + a * (w * (d + k * b) / a) = ap (λ n. w * d + n) y ∙ (omega arith ∙ ap (λ n. k + n) (sym x)) in
    let rest : (w * d) % a ≡ k % a = sym (add-mul-mod_self_left (w * d) a (k * (b * w + 1) / a)) ∙ (ap (λ n. n % a) same ∙ add-mul-mod_self_left k a (w * (d + k * b) / a)) in
    omega arith

-- over any steps
reaches_scaled : (g a b d w : ℕ) → 0 < g → g * a ∣ g * b * w + g → IsLeastReach (g * a) (g * b) (g * d) ((w * d) % a)
reaches_scaled g a b d w some h =
    let P : ℕ → Type 0 = λ x. g * a ∣ x in
    let unit : a ∣ b * w + 1 = dvd_of_mul-dvd-mul_left a some (subst P (omega arith) h) in
    record {
      reaches = subst P (omega arith) (mul-dvd-mul_left a g (reaches a b d w unit));
      least = λ k reach. least a b d w k unit (dvd_of_mul-dvd-mul_left a some (subst P (omega arith) reach));
    }

pub divisor_some : (a b g : ℕ) → 0 < a → IsGcd a b g → 0 < g
divisor_some a b g some gcd = pos_of_dvd_of_pos gcd.0 some

pub quotient_some : (a b g n : ℕ) → 0 < a → IsGcd a b g → n ≡ a / g → 0 < n
quotient_some a b g n some gcd e = let one : 1 ≤ a / g = le-div 1 a g (divisor_some a b g some gcd) (omega (arith, le_of_dvd some gcd.0)) in omega arith

reaches_quotients : (a b g d w : ℕ) → 0 < a → IsGcd a b g → a ∣ b * w + g → d % g ≡ 0 → IsLeastReach a b d ((w * (d / g)) % (a / g))
reaches_quotients a b g d w some gcd makes divides =
    let ea : g * (a / g) ≡ a = mul-div_cancel' g gcd.0 in
    let eb : g * (b / g) ≡ b = mul-div_cancel' g gcd.1 in
    let ed : g * (d / g) ≡ d = mul-div_cancel' g (dvd_of_mod-eq-zero g divides) in
    let A : ℕ → Type 0 = λ x. IsLeastReach x b d ((w * (d / g)) % (a / g)) in
    let B : ℕ → Type 0 = λ x. IsLeastReach (g * (a / g)) x d ((w * (d / g)) % (a / g)) in
    let D : ℕ → Type 0 = λ x. IsLeastReach (g * (a / g)) (g * (b / g)) x ((w * (d / g)) % (a / g)) in
    let M : ℕ → Type 0 = λ x. x ∣ b * w + g in
    let N : ℕ → Type 0 = λ x. g * (a / g) ∣ x * w + g in
    subst A ea (subst B eb (subst D ed (reaches_scaled g (a / g) (b / g) (d / g) w (divisor_some a b g some gcd) (subst N (sym eb) (subst M (sym ea) makes)))))

pub reaches_least : (a b g d w f q n : ℕ) → 0 < a → IsGcd a b g → a ∣ b * w + g → d % g ≡ 0 → f ≡ w → q ≡ d / g → n ≡ a / g → IsLeastReach a b d ((f * q) % n)
reaches_least a b g d w f q n some gcd makes divides ef eq en = rw (ef, eq, en) (reaches_quotients a b g d w some gcd makes divides)
