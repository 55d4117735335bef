-- A saved mask, where no position is left out.
use Rattle.std.specs.Prelude.{◌≡◌, ℕ, ◌+◌, Bool, if◌then◌else◌, ℤ, List, ◌∷◌, length, None, Result, Ok, Err, slice_index}
use Rattle.ws_base.specs.Numbers.{truth, is_true}
use Rattle.phase_ops.specs.declared.phase.Source.{Source}
use Rattle.phase_ops.specs.declared.phase.Act.{Act}
use Rattle.phase_ops.specs.declared.phase.Label.{Label}
use Rattle.phase_ops.specs.declared.phase.Phase.TheVariants.{Loop}
use Rattle.phase_ops.specs.Phases.{Cells, cell_value, word, after_phase, key}
use Rattle.phase_ops.specs.Free.{In, Free, IsChunk}
use Rattle.loop_laws.specs.Moves.{Row, Move, Keeps, Failure, deeper, moved, whole}
use Rattle.loop_laws.specs.Loops.{Plan, ended, rows_of, Keyed, Inside}
use Rattle.save_laws.specs.Values.{ValueSaving}

-- m' is m but for the temporary, which holds the truth of each of these rows
pub record Masked (V : Type 0) (test : List V → Bool) (t n : ℕ) (ts : List (Row V)) (m m' : Cells) : Type 0 where
  pub same_length : length m' ≡ length m
  pub mask_at : (i : ℕ) (s : List V) → In (i, s) ts → cell_value m' (t + i) ≡ truth (test s)
  pub others : (c : ℕ) → (Inside t n c → ⊥) → slice_index m' c ≡ slice_index m c

abbrev pub Masks : (V : Type 0) → (List V → Bool) → (t n : ℕ) → Cells → Cells → Result (List (Row V)) Failure → Type 0
Masks V test t n m m' (Ok ts) = Masked V test t n ts m m'
Masks V test t n m m' (Err f) = Unit {0}

-- A loop that saves the truth of each position as its value leaves the mask in its temporary.
abbrev pub MaskingLaw : Type 0
MaskingLaw =
    (l : ℕ) (b : Label) (count : Source) (acts : List Act) (m : Cells) (n : ℕ) (plan : Plan ℤ) (test : List ℤ → Bool) (t : ℕ) → ValueSaving ℤ plan (λ i s. word (truth (test s))) t count acts m n
    → Free (Loop l b count acts) m
    × ((chunk : ℕ) → IsChunk chunk → Keyed plan (key (Loop l b count acts) m chunk) (whole plan.moves (rows_of plan n))
    × Masks ℤ test t n m (after_phase (Loop l b count acts) m chunk) (whole plan.moves (rows_of plan n)))

-- A loop that first tests the saved mask goes on exactly at the positions where the mask is true.
abbrev pub GateLaw : Type 0
GateLaw =
    (m m' : Cells) (n tm : ℕ) (test : List ℤ → Bool) (ts : List (Row ℤ)) (plan : Plan ℤ) (t : List ℤ → Bool) (more : List (Move ℤ)) → Masked ℤ test tm n ts m m'
    → plan.moves ≡ Keeps t ∷ more → ((i : ℕ) → t (plan.start i) ≡ is_true (cell_value m' (tm + i)))
    → (i : ℕ) (s : List ℤ) → In (i, s) ts → ended plan i ≡ (if test s then deeper (moved more (plan.start i)) else Ok None)
