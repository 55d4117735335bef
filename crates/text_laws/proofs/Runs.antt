-- Texts that begin with a run of bytes that pass a test: names, and numbers in decimal.
use Rattle.std.proofs.Common.{◌≡◌, refl, sym, ap, ◌∙◌, subst, ℕ, suc, ◌<◌, ◌^◌, Bool, true, false, List, [], ◌∷◌, ◌++◌, length, get_or, drop, ℤ, pos, negsuc, decimal, arith, true≢false}
use Rattle.std.specs.Fmt.{signed_decimal}
use Rattle.std.specs.List.{list_all}
use Rattle.std.specs.Str.Parse.{AllDigits, digits_value}
use Rattle.std.proofs.lemmas.Bool.{and_parts, and_from, le-leb}
use Rattle.std.proofs.lemmas.Fmt.{decimal_is_IsNumeral_wide}
use Rattle.std.proofs.lemmas.Str.Parse.{digit_from_value}
use Rattle.text_laws.specs.Writable.{is_digit}

-- ---- lists

pub heads : {a b : ℕ} {s t : List ℕ} → a ∷ s ≡ b ∷ t → a ≡ b
heads {a} {b} {s} {t} e = ap (λ (l : List ℕ). get_or l 0 0) e

pub tails : {a b : ℕ} {s t : List ℕ} → a ∷ s ≡ b ∷ t → s ≡ t
tails {a} {b} {s} {t} e = ap (λ (l : List ℕ). drop 1 l) e

pub joined : {A : Type 0} {a b : A} {s t : List A} → a ≡ b → s ≡ t → a ∷ s ≡ b ∷ t
joined {A} {a} {b} {s} {t} p q = cc

-- ---- runs

-- what does not go on with the run
abbrev pub Stops : (ℕ → Bool) → List ℕ → Type 0
Stops test [] = Unit {0}
Stops test (c ∷ cs) = test c ≡ false

pub same_run : (test : ℕ → Bool) (a b s t : List ℕ) → list_all test a ≡ true → list_all test b ≡ true → Stops test s → Stops test t → a ++ s ≡ b ++ t → (a ≡ b) × (s ≡ t)
same_run test [] [] s t p q u v e = (refl, e)
same_run test [] (d ∷ b) s t p q u v e = absurd (true≢false (sym (and_parts (test d) (list_all test b) q).0 ∙ subst (Stops test) e u))
same_run test (c ∷ a) [] s t p q u v e = absurd (true≢false (sym (and_parts (test c) (list_all test a) p).0 ∙ subst (Stops test) (sym e) v))
same_run test (c ∷ a) (d ∷ b) s t p q u v e =
    let more = same_run test a b s t (and_parts (test c) (list_all test a) p).1 (and_parts (test d) (list_all test b) q).1 u v (tails e) in
    (joined (heads e) more.0, more.1)

-- ---- numbers

all_digits : (ds : List ℕ) → AllDigits 10 ds → list_all is_digit ds ≡ true
all_digits [] h = refl
all_digits (c ∷ cs) h =
    let d = digit_from_value c h.0 in
    and_from (is_digit c) (list_all is_digit cs) (and_from _ _ (le-leb 48 c (omega (arith, d))) (le-leb c 57 (omega (arith, d)))) (all_digits cs h.1)

pub decimal-digits : (n : ℕ) → n < 10 ^ 64 → list_all is_digit (decimal n) ≡ true
decimal-digits n h = all_digits (decimal n) (decimal_is_IsNumeral_wide n h).0.1

pub same_decimal : (m n : ℕ) (s t : List ℕ) → m < 10 ^ 64 → n < 10 ^ 64 → Stops is_digit s → Stops is_digit t → decimal m ++ s ≡ decimal n ++ t → (m ≡ n) × (s ≡ t)
same_decimal m n s t p q u v e =
    let r = same_run is_digit (decimal m) (decimal n) s t (decimal-digits m p) (decimal-digits n q) u v e in
    (sym (decimal_is_IsNumeral_wide m p).1 ∙ (ap (digits_value 10) r.0 ∙ (decimal_is_IsNumeral_wide n q).1), r.1)

-- the first byte of a number is a digit
abbrev pub Begins : (ℕ → Bool) → List ℕ → Type 0
Begins test [] = ⊥
Begins test (c ∷ cs) = test c ≡ true

begins : (ds s : List ℕ) → 0 < length ds → list_all is_digit ds ≡ true → Begins is_digit (ds ++ s)
begins [] s some h = absurd (omega arith)
begins (c ∷ cs) s some h = (and_parts (is_digit c) (list_all is_digit cs) h).0

pub decimal-begins : (n : ℕ) (s : List ℕ) → n < 10 ^ 64 → Begins is_digit (decimal n ++ s)
decimal-begins n s h = begins (decimal n) s (decimal_is_IsNumeral_wide n h).0.0 (decimal-digits n h)

-- what begins with a digit does not begin with another byte
pub no_digit : {c : ℕ} {s t : List ℕ} → Begins is_digit s → is_digit c ≡ false → s ≡ c ∷ t → ⊥
no_digit {c} {s} {t} b n e = true≢false (sym (subst (Begins is_digit) e b) ∙ n)

abbrev pub magnitude : ℤ → ℕ
magnitude (pos n) = n
magnitude (negsuc n) = suc n

pub same_signed : (y z : ℤ) (s t : List ℕ) → magnitude y < 10 ^ 64 → magnitude z < 10 ^ 64 → Stops is_digit s → Stops is_digit t → signed_decimal y ++ s ≡ signed_decimal z ++ t → (y ≡ z) × (s ≡ t)
same_signed (pos m) (pos n) s t p q u v e = let r = same_decimal m n s t p q u v e in (ap pos r.0, r.1)
same_signed (pos m) (negsuc n) s t p q u v e = absurd (no_digit (decimal-begins m s p) refl e)
same_signed (negsuc m) (pos n) s t p q u v e = absurd (no_digit (decimal-begins n t q) refl (sym e))
same_signed (negsuc m) (negsuc n) s t p q u v e =
    let r = same_decimal (suc m) (suc n) s t p q u v (tails e) in
    let is : m ≡ n = (let k = r.0 in omega (arith, k)) in
    (ap negsuc is, r.1)
