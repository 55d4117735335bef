-- Tables in the order of values: each entry is made from those before it.
use Rattle.std.specs.Prelude.{ℕ, zero, suc, List, [], ◌∷◌, ◌++◌}

abbrev pub with_entry : {X : Type 0} → (ℕ → List X → X) → ℕ → List X → List X
with_entry entry n before = before ++ entry n before ∷ []

-- the first entries, as many as the number says
abbrev pub entries_before : {X : Type 0} → (ℕ → List X → X) → ℕ → List X
entries_before entry zero = []
entries_before entry (suc n) = with_entry entry n (entries_before entry n)

-- the entry of this number, counted from 0
abbrev pub entry_at : {X : Type 0} → (ℕ → List X → X) → ℕ → X
entry_at entry n = entry n (entries_before entry n)
