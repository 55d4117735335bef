-- Which variables matter, by how often they are used.
use Rattle.std.proofs.Common.{◌≡◌, refl, sym, ap, ◌∙◌, ℕ, zero, suc, ◌+◌, ◌<◌, ◌≤◌, min, cond, Bool, true, false, List, [], ◌∷◌, ◌++◌, length, drop, get_or, slice_index, append_assoc, add-one, arith}
use Rattle.std.specs.Prelude.{◌==◌, ◌||◌, nat_lt, if◌then◌else◌, count_by, slice_get}
use Rattle.std.proofs.lemmas.List.Sums.{sum_by-append}
use Rattle.std.proofs.lemmas.Bool.Decides.{nat_tests}
use Rattle.hlfir_ops.specs.declared.kinds.ValueKind.{ValueKind}
use Rattle.std.specs.Prelude.{Option, Some, None}
use Rattle.std.proofs.lemmas.List.{get_or_default}
use Rattle.std.proofs.lemmas.Option.{slice_get-get_or}
use Rattle.hlfir_ops.specs.declared.kinds.Elem.TheVariants.{I32}
use Rattle.hlfir_ops.specs.declared.kinds.ValueKind.TheVariants.{Scalar}
use Rattle.hlfir_ops.specs.Rules.{is_in}
use Rattle.rule_tests.specs.Uses.{AreUses}
use Rattle.rule_tests.proofs.Appended.{front}
use Rattle.storage_owner.specs.Layouts.{if_matters, only}

-- one more is counted
count_more : (m n : ℕ) (ns : List ℕ) → count_by (λ k. k == n) (m ∷ ns) ≡ (0 + cond (m == n) 1 0) + count_by (λ k. k == n) ns
count_more m n ns = sum_by-append (λ k. cond (k == n) 1 0) (m ∷ []) ns

-- what is counted is there
pub counted : (ns : List ℕ) (n : ℕ) → nat_lt 0 (count_by (λ k. k == n) ns) ≡ is_in ns n
counted [] n = refl
counted (m ∷ ns) n = ap (λ c. nat_lt 0 c) (count_more m n ns) ∙ by (m == n) (count_by (λ k. k == n) ns) (is_in ns n) (counted ns n)
  where
    by : (b : Bool) (c : ℕ) (found : Bool) → nat_lt 0 c ≡ found → nat_lt 0 ((0 + cond b 1 0) + c) ≡ (b || found)
    by true c found e = grind (arith, nat_tests)
    by false c found e = ap (λ k. nat_lt 0 k) (let q : (0 + 0) + c ≡ c = omega arith in q) ∙ e

-- two counts that are alike up to 2
pub some_alike : (a b : ℕ) → min 2 a ≡ min 2 b → nat_lt 0 a ≡ nat_lt 0 b
some_alike a b e = by (nat_lt 0 a) (nat_lt 0 b) refl refl
  where
    by : (x y : Bool) → nat_lt 0 a ≡ x → nat_lt 0 b ≡ y → nat_lt 0 a ≡ nat_lt 0 b
    by true true p q = p ∙ sym q
    by false false p q = p ∙ sym q
    by true false p q = absurd (let l : 0 < a = grind (arith, nat_tests) in let z : b ≤ 0 = grind (arith, nat_tests) in omega (arith, l, z, e))
    by false true p q = absurd (let l : 0 < b = grind (arith, nat_tests) in let z : a ≤ 0 = grind (arith, nat_tests) in omega (arith, l, z, e))

pub same_only : (f g : ℕ → Bool) (k : ℕ) (kinds : List ValueKind) → ((n : ℕ) → n < k + length kinds → f n ≡ g n) → only f k kinds ≡ only g k kinds
same_only f g k [] h = refl
same_only f g k (x ∷ kinds) h =
    ap (λ b. if_matters b x ∷ only f (suc k) kinds) (h k (omega arith)) ∙ ap (λ xs. if_matters (g k) x ∷ xs) (same_only f g (suc k) kinds (λ n l. h n (omega (arith, l))))

pub used_only : (uses used : List ℕ) (kinds : List ValueKind) → length uses ≡ length kinds → AreUses uses used → only (λ n. nat_lt 0 (slice_index uses n)) 0 kinds ≡ only (is_in used) 0 kinds
used_only uses used kinds e are = same_only (λ n. nat_lt 0 (slice_index uses n)) (is_in used) 0 kinds
    (λ n l. some_alike (slice_index uses n) (count_by (λ m. m == n) used) (are n (omega (arith, e, l))) ∙ counted used n)

pub all_only : (uses : List ℕ) (kinds : List ValueKind) → ((n : ℕ) → n < length kinds → slice_index uses n ≡ 1) → only (λ n. nat_lt 0 (slice_index uses n)) 0 kinds ≡ only (λ n. true) 0 kinds
all_only uses kinds one = same_only (λ n. nat_lt 0 (slice_index uses n)) (λ n. true) 0 kinds (λ n l. ap (λ k. nat_lt 0 k) (one n (omega (arith, l))))

-- a loop that adds each that matters
pub next_only : (f : ℕ → Bool) (kinds : List ValueKind) (k : ℕ) (old now : List (Option ValueKind)) → k < length kinds → now ≡ old ++ (if f k then slice_get kinds k else None) ∷ [] → old ++ only f k (drop k kinds) ≡ now ++ only f (k + 1) (drop (k + 1) kinds)
next_only f kinds k old now within more =
    let x = get_or kinds k (Scalar I32) in
    let added = more ∙ ap (λ o. old ++ (if f k then o else None) ∷ []) (slice_get-get_or kinds k (Scalar I32) within) in
    ap (λ xs. old ++ only f k xs) (front kinds k x within (get_or_default kinds k (Scalar I32) x within))
    ∙ sym (append_assoc old (if_matters (f k) x ∷ []) (only f (suc k) (drop (k + 1) kinds)))
    ∙ ap (λ xs. xs ++ only f (suc k) (drop (k + 1) kinds)) (sym added)
    ∙ ap (λ j. now ++ only f j (drop (k + 1) kinds)) (sym (add-one k))
