-- The acts of the loops whose ops are always the same. The temporary a has targets, t values.
use Rattle.std.specs.Prelude.{ℕ, suc, ◌≡◌, false, List, [], ◌∷◌, ◌++◌, ◌+◌, ◌<◌, Option, Some, None, ℤ, pos, negsuc, slice_index}
use Rattle.ws_base.specs.declared.fault.FaultName.TheVariants.{ManyOne}
use Rattle.phase_ops.specs.declared.phase.Micro.{Micro}
use Rattle.phase_ops.specs.declared.phase.Micro.TheVariants as op
use Rattle.phase_ops.specs.declared.phase.ScalarOp.TheVariants as scalar
use Rattle.phase_ops.specs.declared.phase.Act.{Act}
use Rattle.phase_ops.specs.declared.effect.Effect.TheVariants.{Store}
use Rattle.phase_ops.specs.Phases.{Cells, word, cell_value, key_of, none_yet}
use Rattle.loop_laws.specs.Moves.{Move}
use Rattle.segment_laws.specs.Compiled.{all_ops}
use Rattle.loop_laws.specs.Loops.{does, Plan}
use Rattle.save_laws.specs.Saves.{assigned}
use Rattle.mark_laws.specs.Marks.{marking, checking}
use Rattle.segment_laws.specs.Acts.{from, act, idle_act}

-- the target of the position, and nothing more where it has none
abbrev pub its_target : ℕ → List Micro
its_target a = op.Position ∷ op.Load (from a 0) ∷ op.Fixed (pos 0) ∷ op.Binary scalar.Ge 1 2 ∷ op.Gate 3 ∷ []

abbrev pub clear_acts : ℕ → ℕ → List Act
clear_acts line marks = act line (op.Position ∷ op.Fixed (negsuc 0) ∷ op.Store (from marks 0) 1 ∷ [])

abbrev pub mark_acts : ℕ → ℕ → ℕ → List Act
mark_acts line a marks = act line (its_target a ++ op.Least (from marks 1) 0 ∷ [])

abbrev pub check_acts : ℕ → ℕ → ℕ → List Act
check_acts line a marks = act line ((its_target a ++ op.Load (from marks 1) ∷ op.Binary scalar.Lt 5 0 ∷ op.FailIf ManyOne 6 ∷ []) ++ [])

abbrev pub assign_acts : ℕ → ℕ → ℕ → ℕ → List Act
assign_acts line t a base = act line ((its_target a ++ op.Load (from t 0) ∷ []) ++ op.Store (from base 1) 5 ∷ [])

-- ---- a loop that saves

abbrev pub saves_at : (t a rv rt : ℕ) → List Micro
saves_at t a rv rt = op.Store (from t 0) rv ∷ op.Store (from a 0) rt ∷ []

abbrev pub saver_acts : (line t a rv rt : ℕ) → List (List Micro) → List Act
saver_acts line t a rv rt parts = idle_act line a ∷ record { line = line; ops = all_ops parts ++ saves_at t a rv rt; whole = false } ∷ []

abbrev pub saver_plan : {V : Type 0} → List (Move V) → (number : ℕ → ℕ) → (start : ℕ → List V) → (value target : ℕ → List V → ℕ) → (t a : ℕ) → Plan V
saver_plan xs number start value target t a = record {
  moves = xs;
  act = λ o. 1;
  op = number;
  start = start;
  first = λ i. Store (a + i) (word (negsuc i)) ∷ [];
  last = λ i s. Store (t + i) (value i s) ∷ Store (a + i) (word (pos (target i s))) ∷ [];
}

-- a negative target is none
abbrev pub place_of : ℤ → Option ℕ
place_of (pos q) = Some q
place_of (negsuc q) = None

abbrev pub ActsLaw : Type 0
ActsLaw =
    (line t a base marks i : ℕ) (m : Cells)
    → (does (clear_acts line marks) m i ≡ Store (marks + i) none_yet ∷ [])
    × (does (assign_acts line t a base) m i ≡ assigned base (word (cell_value m (t + i))) (cell_value m (a + i)))
    × (does (mark_acts line a marks) m i ≡ marking marks i (place_of (cell_value m (a + i))))
    × ((q : ℕ) → cell_value m (a + i) ≡ pos q → slice_index m (marks + q) < 9223372036854775808 → does (check_acts line a marks) m i ≡ checking marks i (key_of 0 7 (suc i) ManyOne) m i (Some q))
    × ((q : ℕ) → cell_value m (a + i) ≡ negsuc q → does (check_acts line a marks) m i ≡ [])
