-- Numbers that rise.
use Rattle.std.proofs.Common.{◌≡◌, ap, ◌∙◌, ℕ, ◌-◌, ◌≤◌, inl, inr, List, [], ◌∷◌, ◌++◌, length, get_or, take, arith, length-append}
use Rattle.std.proofs.lemmas.Bool.{cases_lt}
use Rattle.std.proofs.Math.ListN.{get_or-append}
use Rattle.std.proofs.Math.Seq.{get_or-append_seam}
use Rattle.std.proofs.lemmas.List.{take-append-le, get_or_default, get_or-take, length-take}
use Rattle.std.proofs.lemmas.List.Sorted.{IsNonDecreasingBy-push, IsNonDecreasingBy-take}
use Rattle.hlfir_verify.specs.Rising.{Rises}

pub Rises-more : (ns : List ℕ) (n m : ℕ) → n ≤ m → Rises ns n → Rises ns m
Rises-more ns n m le up = record { sorted = up.sorted; below = λ k lt. omega (arith, up.below k lt) }

pub Rises-push : (ns : List ℕ) (n m : ℕ) → n ≤ m → Rises ns n → Rises (ns ++ n ∷ []) m
Rises-push ns n m le up = record {
  sorted = IsNonDecreasingBy-push (λ x. x) ns n up.sorted (λ d some. omega (arith, up.below (length ns - 1) (omega arith), get_or_default ns (length ns - 1) d 0 (omega arith)));
  below = λ k lt. elim (cases_lt k (length ns)) [
    | inl low ↦ omega (arith, get_or-append ns (n ∷ []) 0 k low, up.below k low)
    | inr high ↦ let at : k ≡ length ns = omega (arith, length-append ns (n ∷ [])) in omega (arith, ap (λ i. get_or (ns ++ n ∷ []) i 0) at, get_or-append_seam ns n [] 0)
  ];
}

-- what stood before stays in front
pub kept_more : (old ns more : List ℕ) → take (length old) ns ≡ old → take (length old) (ns ++ more) ≡ old
kept_more old ns more e = let few : length old ≤ length ns = omega (arith, ap length e, length-take (length old) ns) in take-append-le (length old) ns more few ∙ e

pub Rises-take : (ns : List ℕ) (n k : ℕ) → Rises ns n → Rises (take k ns) n
Rises-take ns n k up = record {
  sorted = IsNonDecreasingBy-take (λ x. x) k ns up.sorted;
  below = λ i lt. let few = length-take k ns in omega (arith, get_or-take k ns i 0 (omega (arith, few)), up.below i (omega (arith, few)), few);
}

pub ruleset rising_rules = (Rises-more, Rises-push, Rises-take)
