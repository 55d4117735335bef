-- Counts of the uses of one number, and of the values that have it.
use Rattle.std.proofs.Common.{◌≡◌, refl, ap, ◌∙◌, subst, ℕ, suc, ◌+◌, ◌<◌, ◌≤◌, cond, List, [], ◌∷◌, ◌++◌, map, length, true, Some, arith}
use Rattle.std.specs.Prelude.{◌==◌, count_by}
use Rattle.std.proofs.lemmas.Bool.{eq-eqb, ne_eqb, false≢true}
use Rattle.std.proofs.lemmas.List.Sums.{sum_by-cons}
use Rattle.ws_base.specs.declared.name.Name.{Name}
use Rattle.hlfir_ops.specs.declared.kinds.ValueKind.{ValueKind}
use Rattle.hlfir_ops.specs.Numbers.{kind_of_name}
use Rattle.hlfir_ops.specs.RulesValues.{is_expression}

-- ---- how often a list has the number k

unfoldable pub hit : ℕ → ℕ → ℕ
hit k n = cond (n == k) 1 0

pub hit-same : (k n : ℕ) → n ≡ k → hit k n ≡ 1
unfolding hit
hit-same k n e = ap (λ b. cond b 1 0) (eq-eqb n k e)

pub hit-other : (k n : ℕ) → (n ≡ k → ⊥) → hit k n ≡ 0
unfolding hit
hit-other k n other = ap (λ b. cond b 1 0) (ne_eqb n k other)

abbrev pub hits : ℕ → List ℕ → ℕ
hits k [] = 0
hits k (x ∷ xs) = hit k x + hits k xs

pub hits-append : (k : ℕ) (xs ys : List ℕ) → hits k (xs ++ ys) ≡ hits k xs + hits k ys
hits-append k [] ys = omega arith
hits-append k (x ∷ xs) ys = omega (arith, hits-append k xs ys)

pub count-hits : (k : ℕ) (xs : List ℕ) → count_by (λ n. n == k) xs ≡ hits k xs
unfolding hit
count-hits k [] = refl
count-hits k (x ∷ xs) = sum_by-cons (λ n. cond (n == k) 1 0) x xs ∙ ap (λ m. cond (x == k) 1 0 + m) (count-hits k xs)

-- ---- values of these kinds, numbered from n on

-- how many of them have the number k
abbrev pub given : ℕ → ℕ → List ValueKind → ℕ
given k n [] = 0
given k n (x ∷ xs) = hit k n + given k (suc n) xs

-- the one that has the number k is the value of an array expression
abbrev pub IsArrayAt : ℕ → ℕ → List ValueKind → Type 0
IsArrayAt k n [] = Unit {0}
IsArrayAt k n (x ∷ xs) = (n ≡ k → is_expression (Some x) ≡ true) × IsArrayAt k (suc n) xs

moved : (n : ℕ) → n ≡ n + 0
moved n = omega arith

pub given-append : (k n : ℕ) (xs ys : List ValueKind) → given k n (xs ++ ys) ≡ given k n xs + given k (n + length xs) ys
given-append k n [] ys = ap (λ m. given k m ys) (moved n) ∙ omega arith
given-append k n (x ∷ xs) ys =
    let next : suc n + length xs ≡ n + suc (length xs) = omega arith in
    omega (arith, given-append k (suc n) xs ys, ap (λ m. given k m ys) next)

pub array-first : (k n : ℕ) (xs ys : List ValueKind) → IsArrayAt k n (xs ++ ys) → IsArrayAt k n xs
array-first k n [] ys h = tt
array-first k n (x ∷ xs) ys h = (h.0, array-first k (suc n) xs ys h.1)

pub array-rest : (k n m : ℕ) (xs ys : List ValueKind) → m ≡ n + length xs → IsArrayAt k n (xs ++ ys) → IsArrayAt k m ys
array-rest k n m [] ys e h = let same : n ≡ m = omega arith in subst (λ i. IsArrayAt k i ys) same h
array-rest k n m (x ∷ xs) ys e h = array-rest k (suc n) m xs ys (omega arith) h.1

-- index names are scalars, so none of them has the number k
pub names_missed : (k n : ℕ) (names : List Name) → IsArrayAt k n (map kind_of_name names) → given k n (map kind_of_name names) ≡ 0
names_missed k n [] h = refl
names_missed k n (x ∷ xs) h = omega (arith, hit-other k n (λ e. absurd (false≢true (h.0 e))), names_missed k (suc n) xs h.1)

-- ---- where the number is not among them

pub array-below : (k n : ℕ) (xs : List ValueKind) → k < n → IsArrayAt k n xs
array-below k n [] low = tt
array-below k n (x ∷ xs) low = (λ e. absurd (omega arith), array-below k (suc n) xs (omega arith))

pub array-above : (k n : ℕ) (xs : List ValueKind) → n + length xs ≤ k → IsArrayAt k n xs
array-above k n [] high = tt
array-above k n (x ∷ xs) high = (λ e. absurd (omega arith), array-above k (suc n) xs (omega arith))

pub given-below : (k n : ℕ) (xs : List ValueKind) → k < n → given k n xs ≡ 0
given-below k n [] low = refl
given-below k n (x ∷ xs) low = omega (arith, hit-other k n (λ e. omega arith), given-below k (suc n) xs (omega arith))

pub given-above : (k n : ℕ) (xs : List ValueKind) → n + length xs ≤ k → given k n xs ≡ 0
given-above k n [] high = refl
given-above k n (x ∷ xs) high = omega (arith, hit-other k n (λ e. omega arith), given-above k (suc n) xs (omega arith))

pub array-both : (k n m : ℕ) (xs ys : List ValueKind) → m ≡ n + length xs → IsArrayAt k n xs → IsArrayAt k m ys → IsArrayAt k n (xs ++ ys)
array-both k n m [] ys e a b = let same : m ≡ n = omega arith in subst (λ i. IsArrayAt k i ys) same b
array-both k n m (x ∷ xs) ys e a b = (a.0, array-both k (suc n) m xs ys (omega arith) a.1 b)
