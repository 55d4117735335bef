-- Tables whose entries are each made from those before it.
use Rattle.std.proofs.Common.{◌≡◌, refl, ap, ◌∙◌, inl, inr, ℕ, zero, suc, ◌<◌, List, [], ◌∷◌, length, get_or, arith}
use Rattle.std.proofs.lemmas.Bool.{cases_lt}
use Rattle.std.proofs.lemmas.List.{get_or_append_left, get_or_at, length-append}
use Rattle.alias_test.specs.Tables.{entries_before, entry_at}

length-entries_before : {X : Type 0} (entry : ℕ → List X → X) (n : ℕ) → length (entries_before entry n) ≡ n
length-entries_before entry zero = refl
length-entries_before entry (suc n) = length-append (entries_before entry n) (entry n (entries_before entry n) ∷ []) ∙ omega (arith, length-entries_before entry n)

pub get_or-entries_before : {X : Type 0} (entry : ℕ → List X → X) (n m : ℕ) (d : X) → m < n → get_or (entries_before entry n) m d ≡ entry_at entry m
get_or-entries_before entry zero m d below = absurd (omega arith)
get_or-entries_before entry (suc n) m d below =
    let count : length (entries_before entry n) ≡ n = length-entries_before entry n in
    elim (cases_lt m n) [
      | inl lt ↦ get_or_append_left (entries_before entry n) (entry n (entries_before entry n) ∷ []) d m (omega arith) ∙ get_or-entries_before entry n m d lt
      | inr ge ↦ let same : n ≡ m = omega arith in get_or_at (entries_before entry n) (entry n (entries_before entry n)) [] d m (count ∙ same) ∙ ap (λ k. entry k (entries_before entry k)) same
    ]
