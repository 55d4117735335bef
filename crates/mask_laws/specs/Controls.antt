-- A saved mask under a control: 1 or 0 where the control is true, and the negative of its number at any other position. So one cell tells a
-- later loop whether its position is in the block of the mask, in what ELSEWHERE takes up, or in neither.
use Rattle.std.specs.Prelude.{◌≡◌, ◌↔◌, ◌⊎◌, ℕ, ◌+◌, ◌<◌, ◌≤◌, Bool, true, ℤ, negsuc, List, [], ◌∷◌, length, Result, Ok, Err, slice_index}
use Rattle.ws_base.specs.Numbers.{truth, is_true, int_eq}
use Rattle.phase_ops.specs.declared.effect.Effect.TheVariants.{Store}
use Rattle.phase_ops.specs.declared.phase.Source.{Source}
use Rattle.phase_ops.specs.declared.phase.Act.{Act}
use Rattle.phase_ops.specs.declared.phase.Label.{Label}
use Rattle.phase_ops.specs.declared.phase.Phase.TheVariants.{Loop}
use Rattle.phase_ops.specs.Phases.{Cells, cell_value, word, source_cells, after_phase, key}
use Rattle.phase_ops.specs.Free.{In, Free, IsChunk}
use Rattle.loop_laws.specs.Moves.{Row, Failure, whole}
use Rattle.loop_laws.specs.Loops.{Plan, rows_of, looks_at, Follows, Fitting, Keyed, Inside}

-- every position puts the negative of its number first, and one that is left then puts its truth
pub record ControlSaving (V : Type 0) (plan : Plan V) (test : List V → Bool) (t : ℕ) (count : Source) (acts : List Act) (m : Cells) (n : ℕ) : Type 0 where
  pub follows : Follows V plan acts m n
  pub fitting : Fitting count acts m n
  pub first_is : (i : ℕ) → plan.first i ≡ Store (t + i) (word (negsuc i)) ∷ []
  pub last_is : (i : ℕ) (s : List V) → plan.last i s ≡ Store (t + i) (word (truth (test s))) ∷ []
  pub temp_there : t + n ≤ length m
  pub unread : (i c : ℕ) → i < n → In c (looks_at acts m i) → Inside t n c → ⊥
  pub not_count : (c : ℕ) → In c (source_cells count) → Inside t n c → ⊥

pub record ControlSaved (V : Type 0) (test : List V → Bool) (t n : ℕ) (ts : List (Row V)) (m x : Cells) : Type 0 where
  pub same_length : length x ≡ length m
  pub mask_at : (i : ℕ) (s : List V) → In (i, s) ts → cell_value x (t + i) ≡ truth (test s)
  pub idle_at : (i : ℕ) → i < n → ((s : List V) × In (i, s) ts) ⊎ (cell_value x (t + i) ≡ negsuc i)
  pub others : (c : ℕ) → (Inside t n c → ⊥) → slice_index x c ≡ slice_index m c

abbrev pub SavesControl : (V : Type 0) → (List V → Bool) → (t n : ℕ) → Cells → Cells → Result (List (Row V)) Failure → Type 0
SavesControl V test t n m x (Ok ts) = ControlSaved V test t n ts m x
SavesControl V test t n m x (Err f) = Unit {0}

abbrev pub ControlLaw : Type 0
ControlLaw =
    (l : ℕ) (b : Label) (count : Source) (acts : List Act) (m : Cells) (n : ℕ) (plan : Plan ℤ) (test : List ℤ → Bool) (t : ℕ) → ControlSaving ℤ plan test t count acts m n
    → Free (Loop l b count acts) m
    × ((chunk : ℕ) → IsChunk chunk → Keyed plan (key (Loop l b count acts) m chunk) (whole plan.moves (rows_of plan n))
    × SavesControl ℤ test t n m (after_phase (Loop l b count acts) m chunk) (whole plan.moves (rows_of plan n)))

-- An equality with 1 holds exactly at the positions of the mask's block, and one with 0 exactly at those that ELSEWHERE takes up.
abbrev pub ControlGateLaw : Type 0
ControlGateLaw =
    (m x : Cells) (n t : ℕ) (test : List ℤ → Bool) (ts : List (Row ℤ)) → ControlSaved ℤ test t n ts m x → (i : ℕ) → i < n → (want : Bool)
    → (is_true (truth (int_eq (cell_value x (t + i)) (truth want))) ≡ true) ↔ ((s : List ℤ) × In (i, s) ts × (test s ≡ want))
