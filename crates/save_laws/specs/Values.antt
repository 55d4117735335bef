-- `save t`, then `assign a from t`: saved values, whose targets are computed again.
use Rattle.std.specs.Prelude.{◌≡◌, ◌⊎◌, ℕ, suc, ◌+◌, ◌<◌, ◌≤◌, ℤ, List, [], ◌∷◌, length, Result, Ok, Err, slice_index}
use Rattle.phase_ops.specs.declared.effect.Effect.TheVariants.{Store}
use Rattle.phase_ops.specs.declared.phase.Source.{Source}
use Rattle.phase_ops.specs.declared.phase.Act.{Act}
use Rattle.phase_ops.specs.declared.phase.Label.{Label}
use Rattle.phase_ops.specs.declared.phase.Phase.TheVariants.{Loop}
use Rattle.phase_ops.specs.Phases.{Cells, source_cells, after_phase, key, key_of, none_yet, Outcome, Finished, Failed, result}
use Rattle.phase_ops.specs.Free.{In, Free, FreeList, IsChunk}
use Rattle.loop_laws.specs.Moves.{Row, Failure, whole}
use Rattle.loop_laws.specs.Loops.{Plan, rows_of, does, looks_at, Follows, Fitting, Keyed, Inside}
use Rattle.save_laws.specs.Pairs.{Lap, loop}

-- a loop that saves the value of the position i in t + i
pub record ValueSaving (V : Type 0) (plan : Plan V) (value : ℕ → List V → ℕ) (t : ℕ) (count : Source) (acts : List Act) (m : Cells) (n : ℕ) : Type 0 where
  pub follows : Follows V plan acts m n
  pub fitting : Fitting count acts m n
  pub first_is : (i : ℕ) → plan.first i ≡ []
  pub last_is : (i : ℕ) (s : List V) → plan.last i s ≡ Store (t + i) (value i s) ∷ []
  pub temp_there : t + n ≤ length m
  pub unread : (i c : ℕ) → i < n → In c (looks_at acts m i) → Inside t n c → ⊥
  pub not_count : (c : ℕ) → In c (source_cells count) → Inside t n c → ⊥

-- m' is m but for the temporary, which holds the values of these rows
pub record SavedValues (V : Type 0) (value : ℕ → List V → ℕ) (t n : ℕ) (ts : List (Row V)) (m m' : Cells) : Type 0 where
  pub same_length : length m' ≡ length m
  pub value_at : (i : ℕ) (s : List V) → In (i, s) ts → slice_index m' (t + i) ≡ value i s
  pub others : (c : ℕ) → (Inside t n c → ⊥) → slice_index m' c ≡ slice_index m c

abbrev pub SavesValues : (V : Type 0) → (ℕ → List V → ℕ) → (t n : ℕ) → Cells → Cells → Result (List (Row V)) Failure → Type 0
SavesValues V value t n m m' (Ok ts) = SavedValues V value t n ts m m'
SavesValues V value t n m m' (Err f) = Unit {0}

abbrev pub ValueSavingLaw : Type 0
ValueSavingLaw =
    (l : ℕ) (b : Label) (count : Source) (acts : List Act) (m : Cells) (n : ℕ) (plan : Plan ℤ) (value : ℕ → List ℤ → ℕ) (t : ℕ) → ValueSaving ℤ plan value t count acts m n
    → Free (Loop l b count acts) m
    × ((chunk : ℕ) → IsChunk chunk → Keyed plan (key (Loop l b count acts) m chunk) (whole plan.moves (rows_of plan n))
    × SavesValues ℤ value t n m (after_phase (Loop l b count acts) m chunk) (whole plan.moves (rows_of plan n)))

-- The second loop, over the memory after saving. A position that is left puts its saved value into its target, and any other does nothing. What
-- a position loads is no target of another: its mask and its subscripts are evaluated again, and must be as they were.
pub record ValueAssigning (V : Type 0) (target : ℕ → List V → ℕ) (t : ℕ) (ts : List (Row V)) (count : Source) (acts : List Act) (m : Cells) (n : ℕ) : Type 0 where
  pub fitting : Fitting count acts m n
  pub rows_below : (i : ℕ) (s : List V) → In (i, s) ts → i < n
  pub does_this : (i : ℕ) → i < n → ((s : List V) × In (i, s) ts × (does acts m i ≡ Store (target i s) (slice_index m (t + i)) ∷ [])) ⊎ (((s : List V) → In (i, s) ts → ⊥) × (does acts m i ≡ []))
  pub one_each : (i : ℕ) (s u : List V) → In (i, s) ts → In (i, u) ts → s ≡ u
  pub apart : (i j : ℕ) (s u : List V) → In (i, s) ts → In (j, u) ts → target i s ≡ target j u → i ≡ j
  pub unread : (i j : ℕ) (s : List V) → In (i, s) ts → j < n → In (target i s) (looks_at acts m j) → i ≡ j
  pub there : (i : ℕ) (s : List V) → In (i, s) ts → target i s < length m
  pub not_count : (i : ℕ) (s : List V) → In (i, s) ts → In (target i s) (source_cells count) → ⊥

-- all targets of the rows have their values, and no other cell but the temporary's is changed
pub record AssignedValues (V : Type 0) (target value : ℕ → List V → ℕ) (t n : ℕ) (ts : List (Row V)) (m x : Cells) : Type 0 where
  pub same_length : length x ≡ length m
  pub given : (i : ℕ) (s : List V) → In (i, s) ts → slice_index x (target i s) ≡ value i s
  pub others : (c : ℕ) → (Inside t n c → ⊥) → ((i : ℕ) (s : List V) → In (i, s) ts → c ≡ target i s → ⊥) → slice_index x c ≡ slice_index m c

abbrev pub ValueAssigningLaw : Type 0
ValueAssigningLaw =
    (l : ℕ) (b : Label) (count : Source) (acts : List Act) (m m' : Cells) (n : ℕ) (target value : ℕ → List ℤ → ℕ) (t : ℕ) (ts : List (Row ℤ))
    → SavedValues ℤ value t n ts m m' → ValueAssigning ℤ target t ts count acts m' n
    → Free (Loop l b count acts) m'
    × ((chunk : ℕ) → IsChunk chunk → (key (Loop l b count acts) m' chunk ≡ none_yet) × AssignedValues ℤ target value t n ts m (after_phase (Loop l b count acts) m' chunk))

-- ---- both loops

abbrev pub ValuePairEnds : (V : Type 0) → Plan V → (target value : ℕ → List V → ℕ) → (t n : ℕ) → Cells → Result (List (Row V)) Failure → Outcome → Type 0
ValuePairEnds V plan target value t n m (Ok ts) r = (x : Cells) × (r ≡ Finished x) × AssignedValues V target value t n ts m x
ValuePairEnds V plan target value t n m (Err f) r = r ≡ Failed 0 (key_of (plan.act f.move) (plan.op f.move) (suc f.iteration) f.name)

-- All targets are replaced at once, or the first move that fails anywhere is the fault.
abbrev pub ValuePairLaw : Type 0
ValuePairLaw =
    (p q : Lap) (m : Cells) (n : ℕ) (plan : Plan ℤ) (target value : ℕ → List ℤ → ℕ) (t : ℕ)
    → ValueSaving ℤ plan value t p.count p.acts m n
    → ((ts : List (Row ℤ)) (m' : Cells) → whole plan.moves (rows_of plan n) ≡ Ok ts → SavedValues ℤ value t n ts m m' → ValueAssigning ℤ target t ts q.count q.acts m' n)
    → FreeList (loop p ∷ loop q ∷ []) m
    × ((chunk : ℕ) → IsChunk chunk → ValuePairEnds ℤ plan target value t n m (whole plan.moves (rows_of plan n)) (result (loop p ∷ loop q ∷ []) m chunk))
