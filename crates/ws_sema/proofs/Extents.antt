-- The number of elements may be counted up to one above the limit.
use Rattle.std.proofs.Common.{◌≡◌, refl, ap, ℕ, zero, suc, ◌*◌, ◌-◌, ◌≤◌, min, nat_lt, List, [], ◌∷◌, Some, None, ◌∙◌, sym, arith}
use Rattle.std.proofs.lemmas.Bool.Decides.{nat_tests}
use Rattle.ws_tree.specs.declared.stmt.Bound.{Bound}
use Rattle.ws_types.specs.declared.constant.Constant.{Constant}
use Rattle.ws_sema.specs.Declarations.{is_too_large, extent_of, times}

few_times : (m n : ℕ) → m ≤ 65537 → min (m * n) 65537 ≡ min (min m 65537 * n) 65537
few_times m n h = let e : min m 65537 ≡ m = omega arith in rw e refl

many_times : (m n : ℕ) → 65537 ≤ m → min (m * n) 65537 ≡ min (65537 * n) 65537
many_times m zero h = omega arith
many_times m (suc n) h = omega arith

at_least : (m n : ℕ) → 65537 ≤ m → min (m * n) 65537 ≡ min (min m 65537 * n) 65537
at_least m n h = let e : min m 65537 ≡ 65537 = omega arith in rw e (many_times m n h)

capped_by : (k m n : ℕ) → m - 65537 ≡ k → min (m * n) 65537 ≡ min (min m 65537 * n) 65537
capped_by zero m n e = few_times m n (omega arith)
capped_by (suc k) m n e = at_least m n (omega arith)

capped_times : (m n : ℕ) → min (m * n) 65537 ≡ min (min m 65537 * n) 65537
capped_times m n = capped_by (m - 65537) m n refl

capped_test : (m : ℕ) → nat_lt 65536 m ≡ nat_lt 65536 (min m 65537)
capped_test m = grind (arith, nat_tests)

too_large_capped : (cs : List Constant) (m : ℕ) (bs : List Bound) → is_too_large cs (Some m) bs ≡ is_too_large cs (Some (min m 65537)) bs
too_large_capped cs m [] = capped_test m
too_large_capped cs m (b ∷ bs) =
    elim (extent_of cs b) as (λ e. is_too_large cs (times (Some m) e) bs ≡ is_too_large cs (times (Some (min m 65537)) e) bs) [
      | None ↦ refl
      | Some n ↦ too_large_capped cs (m * n) bs ∙ ap (λ k. is_too_large cs (Some k) bs) (capped_times m n) ∙ sym (too_large_capped cs (min m 65537 * n) bs)
    ]

-- one more dimension, where the count is capped
pub too_large-cons : (cs : List Constant) (m n k : ℕ) (b : Bound) (bs : List Bound) → extent_of cs b ≡ Some n → k ≡ min (m * n) 65537 → is_too_large cs (Some m) (b ∷ bs) ≡ is_too_large cs (Some k) bs
too_large-cons cs m n k b bs e is = ap (λ x. is_too_large cs (times (Some m) x) bs) e ∙ too_large_capped cs (m * n) bs ∙ ap (λ x. is_too_large cs (Some x) bs) (sym is)

pub too_large-none : (cs : List Constant) (m : ℕ) (b : Bound) (bs : List Bound) → extent_of cs b ≡ None → is_too_large cs (Some m) (b ∷ bs) ≡ is_too_large cs None bs
too_large-none cs m b bs e = ap (λ x. is_too_large cs (times (Some m) x) bs) e
