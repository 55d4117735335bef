-- The check for targets that are named twice: clear, mark, check.
use Rattle.std.specs.Prelude.{◌≡◌, ◌⊎◌, ℕ, suc, ◌+◌, ◌<◌, ◌≤◌, nat_lt, if◌then◌else◌, List, [], ◌∷◌, length, Option, Some, None, slice_index}
use Rattle.ws_base.specs.declared.fault.FaultName.TheVariants.{ManyOne}
use Rattle.phase_ops.specs.declared.effect.Effect.{Effect}
use Rattle.phase_ops.specs.declared.effect.Effect.TheVariants.{Store, Least, Fault}
use Rattle.phase_ops.specs.declared.phase.Source.{Source}
use Rattle.phase_ops.specs.declared.phase.Act.{Act}
use Rattle.phase_ops.specs.declared.phase.Label.{Label}
use Rattle.phase_ops.specs.declared.phase.Phase.TheVariants.{Loop}
use Rattle.phase_ops.specs.Phases.{Cells, source_cells, after_phase, key, key_of, none_yet}
use Rattle.phase_ops.specs.Free.{In, Free, IsChunk}
use Rattle.loop_laws.specs.Loops.{does, looks_at, Fitting, Inside}

-- Both memories have the same cells but for the n ones from this one on.
pub record SameBut (from n : ℕ) (m m' : Cells) : Type 0 where
  pub same_length : length m' ≡ length m
  pub others : (c : ℕ) → (Inside from n c → ⊥) → slice_index m' c ≡ slice_index m c

-- ---- clear

-- the position i puts the greatest number into the mark i
pub record Clearing (marks : ℕ) (count : Source) (acts : List Act) (m : Cells) (n : ℕ) : Type 0 where
  pub fitting : Fitting count acts m n
  pub does_this : (i : ℕ) → i < n → does acts m i ≡ Store (marks + i) none_yet ∷ []
  pub unread : (i c : ℕ) → i < n → In c (looks_at acts m i) → Inside marks n c → ⊥
  pub not_count : (c : ℕ) → In c (source_cells count) → Inside marks n c → ⊥
  pub marks_there : marks + n ≤ length m

pub record Cleared (marks n : ℕ) (m m' : Cells) : Type 0 where
  pub same : SameBut marks n m m'
  pub clear : (q : ℕ) → q < n → slice_index m' (marks + q) ≡ none_yet

abbrev pub ClearingLaw : Type 0
ClearingLaw =
    (l : ℕ) (b : Label) (count : Source) (acts : List Act) (m : Cells) (n marks : ℕ) → Clearing marks count acts m n
    → Free (Loop l b count acts) m
    × ((chunk : ℕ) → IsChunk chunk → (key (Loop l b count acts) m chunk ≡ none_yet) × Cleared marks n m (after_phase (Loop l b count acts) m chunk))

-- ---- mark

-- the place of each position's target, and none where the position is inactive
abbrev pub Places : Type 0
Places = ℕ → Option ℕ

abbrev pub marking : ℕ → ℕ → Option ℕ → List Effect
marking marks number None = []
marking marks number (Some q) = Least (marks + q) number ∷ []

-- An active position lays its number, which is `from + i`, over the mark of its place. There are z marks.
pub record Marking (marks z from : ℕ) (at : Places) (count : Source) (acts : List Act) (m : Cells) (n : ℕ) : Type 0 where
  pub fitting : Fitting count acts m n
  pub does_this : (i : ℕ) → i < n → does acts m i ≡ marking marks (from + i) (at i)
  pub places : (i q : ℕ) → i < n → at i ≡ Some q → q < z
  pub small : from ≤ 1
  pub unread : (i c : ℕ) → i < n → In c (looks_at acts m i) → Inside marks z c → ⊥
  pub not_count : (c : ℕ) → In c (source_cells count) → Inside marks z c → ⊥
  pub marks_there : marks + z ≤ length m
  pub clear : (q : ℕ) → q < z → slice_index m (marks + q) ≡ none_yet

-- each mark is the least number of an active position with this place
pub record Marked (marks z from n : ℕ) (at : Places) (m m' : Cells) : Type 0 where
  pub same : SameBut marks z m m'
  pub low : (i q : ℕ) → i < n → at i ≡ Some q → slice_index m' (marks + q) ≤ from + i
  pub is_one : (q : ℕ) → q < z → (slice_index m' (marks + q) ≡ none_yet) ⊎ ((i : ℕ) × (i < n) × (at i ≡ Some q) × (slice_index m' (marks + q) ≡ from + i))

abbrev pub MarkingLaw : Type 0
MarkingLaw =
    (l : ℕ) (b : Label) (count : Source) (acts : List Act) (m : Cells) (n marks z from : ℕ) (at : Places) → Marking marks z from at count acts m n
    → Free (Loop l b count acts) m
    × ((chunk : ℕ) → IsChunk chunk → (key (Loop l b count acts) m chunk ≡ none_yet) × Marked marks z from n at m (after_phase (Loop l b count acts) m chunk))

-- ---- check

abbrev pub checking : ℕ → ℕ → ℕ → Cells → ℕ → Option ℕ → List Effect
checking marks number fails m i None = []
checking marks number fails m i (Some q) = if nat_lt (slice_index m (marks + q)) number then Fault fails ∷ [] else []

-- an active position fails where the mark of its place is less than its number
pub record Checking (marks from act op : ℕ) (at : Places) (count : Source) (acts : List Act) (m : Cells) (n : ℕ) : Type 0 where
  pub fitting : Fitting count acts m n
  pub does_this : (i : ℕ) → i < n → does acts m i ≡ checking marks (from + i) (key_of act op (suc i) ManyOne) m i (at i)
  pub small : from ≤ 1
  pub spot : (act < 1048576) × (op < 1048576)

-- the place of the position is that of an earlier one
abbrev pub Repeats : Places → ℕ → Type 0
Repeats at i = (q j : ℕ) × (j < i) × (at j ≡ Some q) × (at i ≡ Some q)

-- no two active positions have one place, and the key is none; or it is that of the first position that repeats a place
abbrev pub Checked : ℕ → ℕ → ℕ → Places → ℕ → Type 0
Checked act op n at k =
    ((k ≡ none_yet) × ((i : ℕ) → i < n → Repeats at i → ⊥))
    ⊎ ((i : ℕ) × (i < n) × Repeats at i × ((j : ℕ) → j < n → Repeats at j → i ≤ j) × (k ≡ key_of act op (suc i) ManyOne))

abbrev pub CheckingLaw : Type 0
CheckingLaw =
    (l : ℕ) (b : Label) (count : Source) (acts : List Act) (m m' : Cells) (n marks z from act op : ℕ) (at : Places)
    → Marked marks z from n at m m' → ((i q : ℕ) → i < n → at i ≡ Some q → q < z) → Checking marks from act op at count acts m' n
    → Free (Loop l b count acts) m'
    × ((chunk : ℕ) → IsChunk chunk → Checked act op n at (key (Loop l b count acts) m' chunk) × (after_phase (Loop l b count acts) m' chunk ≡ m'))
