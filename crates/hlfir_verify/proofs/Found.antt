-- What a binary search finds.
use Rattle.std.proofs.Common.{◌≡◌, ℕ, ◌<◌, ◌≤◌, true, false, List, length, get_or, refl, arith, inl, inr, Result, Ok, Err}
use Rattle.std.specs.Prelude.{◌==◌}
use Rattle.std.specs.Result.{is_ok}
use Rattle.std.specs.Ordering.{nat_cmp}
use Rattle.std.specs.List.Sorted.{IsBinarySearchResult, IsNonDecreasing}
use Rattle.std.proofs.lemmas.Bool.{cases_lt, eq-eqb, ne_eqb}
use Rattle.std.proofs.lemmas.List.Sorted.{searched}
use Rattle.std.proofs.lemmas.List.Recursion.{or_is}
use Rattle.hlfir_ops.specs.Rules.{is_in}

abbrev in_order : (xs : List ℕ) → IsNonDecreasing xs → (i j : ℕ) → i ≤ j → j < length xs → get_or xs i 0 ≤ get_or xs j 0
in_order xs up i j le lt = up i j 0 le lt

pub found : (xs : List ℕ) (x : ℕ) (r : Result ℕ ℕ) → IsBinarySearchResult (λ y. nat_cmp y x) xs r → IsNonDecreasing xs → is_ok r ≡ is_in xs x
found xs x (Ok i) h up =
    let s = searched xs x (Ok i) h (in_order xs up) in
    or_is (λ ys. is_in ys x) (λ m. m == x) refl (λ _ _. refl) xs 0 true (λ _. (i, s.0, eq-eqb (get_or xs i 0) x s.1)) (λ e. cc)
found xs x (Err i) h up =
    let s = searched xs x (Err i) h (in_order xs up) in
    let other : (k : ℕ) → k < length xs → get_or xs k 0 ≡ x → ⊥ = λ k lt e. elim (cases_lt k i) [ inl low ↦ absurd (omega (arith, s.1 k low)) | inr high ↦ absurd (omega (arith, s.2 k high lt)) ] in
    or_is (λ ys. is_in ys x) (λ m. m == x) refl (λ _ _. refl) xs 0 false (λ e. cc) (λ _ k lt. ne_eqb (get_or xs k 0) x (other k lt))
