-- A loop that saves values and targets, and the loop that assigns from them.
use Rattle.std.specs.Prelude.{◌≡◌, ◌⊎◌, ℕ, ◌+◌, ◌<◌, ◌≤◌, ℤ, pos, negsuc, List, [], ◌∷◌, length, Result, Ok, Err, slice_index}
use Rattle.phase_ops.specs.declared.effect.Effect.{Effect}
use Rattle.phase_ops.specs.declared.effect.Effect.TheVariants.{Store}
use Rattle.phase_ops.specs.declared.phase.Source.{Source}
use Rattle.phase_ops.specs.declared.phase.Act.{Act}
use Rattle.phase_ops.specs.declared.phase.Label.{Label}
use Rattle.phase_ops.specs.declared.phase.Phase.TheVariants.{Loop}
use Rattle.phase_ops.specs.Phases.{Cells, cell_value, word, source_cells, after_phase, key, none_yet}
use Rattle.phase_ops.specs.Free.{In, Free, IsChunk}
use Rattle.loop_laws.specs.Moves.{Row, Failure, whole}
use Rattle.loop_laws.specs.Loops.{Plan, rows_of, does, looks_at, Follows, Fitting, Keyed, Inside}

-- ---- saved values and targets

-- The value of the position i goes to t + i and its target to a + i. There every position puts the negative of its number first, and one that
-- is left then puts its target.
pub record Saving (V : Type 0) (plan : Plan V) (value target : ℕ → List V → ℕ) (t a : ℕ) (count : Source) (acts : List Act) (m : Cells) (n : ℕ) : Type 0 where
  pub follows : Follows V plan acts m n
  pub fitting : Fitting count acts m n
  pub first_is : (i : ℕ) → plan.first i ≡ Store (a + i) (word (negsuc i)) ∷ []
  pub last_is : (i : ℕ) (s : List V) → plan.last i s ≡ Store (t + i) (value i s) ∷ Store (a + i) (word (pos (target i s))) ∷ []
  pub temps_apart : (t + n ≤ a) ⊎ (a + n ≤ t)
  pub temps_there : (t + n ≤ length m) × (a + n ≤ length m)
  pub unread : (i c : ℕ) → i < n → In c (looks_at acts m i) → (Inside t n c → ⊥) × (Inside a n c → ⊥)
  pub not_count : (c : ℕ) → In c (source_cells count) → (Inside t n c → ⊥) × (Inside a n c → ⊥)

-- m' is m but for the temporaries, which hold the values and targets of these rows
pub record Saved (V : Type 0) (value target : ℕ → List V → ℕ) (t a n : ℕ) (ts : List (Row V)) (m m' : Cells) : Type 0 where
  pub same_length : length m' ≡ length m
  pub below : (i : ℕ) (s : List V) → In (i, s) ts → i < n
  pub one_each : (i : ℕ) (s u : List V) → In (i, s) ts → In (i, u) ts → s ≡ u
  pub value_at : (i : ℕ) (s : List V) → In (i, s) ts → slice_index m' (t + i) ≡ value i s
  pub target_at : (i : ℕ) (s : List V) → In (i, s) ts → slice_index m' (a + i) ≡ word (pos (target i s))
  pub idle_at : (i : ℕ) → i < n → ((s : List V) × In (i, s) ts) ⊎ (slice_index m' (a + i) ≡ word (negsuc i))
  pub others : (c : ℕ) → (Inside t n c → ⊥) → (Inside a n c → ⊥) → slice_index m' c ≡ slice_index m c

abbrev pub Saves : (V : Type 0) → (value target : ℕ → List V → ℕ) → (t a n : ℕ) → Cells → Cells → Result (List (Row V)) Failure → Type 0
Saves V value target t a n m m' (Ok ts) = Saved V value target t a n ts m m'
Saves V value target t a n m m' (Err f) = Unit {0}

abbrev pub SavingLaw : Type 0
SavingLaw =
    (l : ℕ) (b : Label) (count : Source) (acts : List Act) (m : Cells) (n : ℕ) (plan : Plan ℤ) (value target : ℕ → List ℤ → ℕ) (t a : ℕ) → Saving ℤ plan value target t a count acts m n
    → Free (Loop l b count acts) m
    × ((chunk : ℕ) → IsChunk chunk → Keyed plan (key (Loop l b count acts) m chunk) (whole plan.moves (rows_of plan n))
    × Saves ℤ value target t a n m (after_phase (Loop l b count acts) m chunk) (whole plan.moves (rows_of plan n)))

-- ---- `assign from t at a`

-- what one position does: a negative target is none
abbrev pub assigned : ℕ → ℕ → ℤ → List Effect
assigned base v (pos q) = Store (base + q) v ∷ []
assigned base v (negsuc q) = []

pub record Assigning (V : Type 0) (value target : ℕ → List V → ℕ) (t a base : ℕ) (ts : List (Row V)) (count : Source) (acts : List Act) (m : Cells) (n : ℕ) : Type 0 where
  pub fitting : Fitting count acts m n
  pub does_this : (i : ℕ) → i < n → does acts m i ≡ assigned base (slice_index m (t + i)) (cell_value m (a + i))
  -- it loads its own cells of the temporaries, and cells that are no target
  pub reads_own : (i c : ℕ) → i < n → In c (looks_at acts m i) → (c ≡ t + i) ⊎ ((c ≡ a + i) ⊎ ((j : ℕ) (s : List V) → In (j, s) ts → c ≡ base + target j s → ⊥))
  pub apart : (i j : ℕ) (s u : List V) → In (i, s) ts → In (j, u) ts → target i s ≡ target j u → i ≡ j
  pub small : (i : ℕ) (s : List V) → In (i, s) ts → target i s < 9223372036854775808
  pub there : (i : ℕ) (s : List V) → In (i, s) ts → base + target i s < length m
  pub not_temps : (i : ℕ) (s : List V) → In (i, s) ts → (Inside t n (base + target i s) → ⊥) × (Inside a n (base + target i s) → ⊥)
  pub not_count : (i : ℕ) (s : List V) → In (i, s) ts → In (base + target i s) (source_cells count) → ⊥

-- all targets of the rows have their values, and no other cell but the temporaries' is changed
pub record Assigned (V : Type 0) (value target : ℕ → List V → ℕ) (t a base n : ℕ) (ts : List (Row V)) (m m' : Cells) : Type 0 where
  pub same_length : length m' ≡ length m
  pub given : (i : ℕ) (s : List V) → In (i, s) ts → slice_index m' (base + target i s) ≡ value i s
  pub others : (c : ℕ) → (Inside t n c → ⊥) → (Inside a n c → ⊥) → ((i : ℕ) (s : List V) → In (i, s) ts → c ≡ base + target i s → ⊥) → slice_index m' c ≡ slice_index m c

abbrev pub AssigningLaw : Type 0
AssigningLaw =
    (l : ℕ) (b : Label) (count : Source) (acts : List Act) (m m' : Cells) (n : ℕ) (value target : ℕ → List ℤ → ℕ) (t a base : ℕ) (ts : List (Row ℤ)) → n ≤ 65536
    → Saved ℤ value target t a n ts m m' → Assigning ℤ value target t a base ts count acts m' n
    → Free (Loop l b count acts) m'
    × ((chunk : ℕ) → IsChunk chunk → (key (Loop l b count acts) m' chunk ≡ none_yet) × Assigned ℤ value target t a base n ts m (after_phase (Loop l b count acts) m' chunk))
