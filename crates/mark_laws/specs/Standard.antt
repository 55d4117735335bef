-- The four loops behind a saving one, as they always are.
use Rattle.std.specs.Prelude.{◌≡◌, ◌⊎◌, ℕ, suc, ◌+◌, ◌<◌, ◌≤◌, ℤ, pos, List, length, Option, Some, None, Result, Ok, Err, slice_index_or}
use Rattle.ws_base.specs.declared.fault.FaultName.TheVariants.{ManyOne}
use Rattle.ws_space.specs.Values.{first_repeat}
use Rattle.phase_ops.specs.declared.phase.Label.{Label}
use Rattle.phase_ops.specs.declared.phase.Source.TheVariants.{Fixed}
use Rattle.phase_ops.specs.declared.phase.Act.{Act}
use Rattle.phase_ops.specs.declared.phase.Phase.{Phase}
use Rattle.phase_ops.specs.Phases.{Cells, key_of, Outcome, Finished, Failed, result}
use Rattle.phase_ops.specs.Free.{In, FreeList, IsChunk}
use Rattle.loop_laws.specs.Moves.{Row, Failure, iterations_of, whole, targets_of}
use Rattle.loop_laws.specs.Loops.{Plan, ended, rows_of}
use Rattle.save_laws.specs.Saves.{Saving}
use Rattle.save_laws.specs.Pairs.{Lap}
use Rattle.mark_laws.specs.Checks.{Behind, places_of, five, Done}
use Rattle.mark_laws.specs.Acts.{clear_acts, mark_acts, check_acts, assign_acts}

abbrev pub lap : ℕ → Label → ℕ → List Act → Lap
lap line b n acts = record { line = line; label = b; count = Fixed (pos n); acts = acts }

-- Where things stand: the temporaries, the marks, and the array of the target from `base` on, which has z elements as the marks have.
pub record Room (t a n marks z base : ℕ) (m : Cells) : Type 0 where
  pub few : (n ≤ 65536) × (z ≤ 65536)
  pub there : (t + n ≤ length m) × (a + n ≤ length m) × (marks + z ≤ length m) × (base + z ≤ length m)
  pub marks_apart : ((t + n ≤ marks) ⊎ (marks + z ≤ t)) × ((a + n ≤ marks) ⊎ (marks + z ≤ a))
  pub base_apart : ((t + n ≤ base) ⊎ (base + z ≤ t)) × ((a + n ≤ base) ⊎ (base + z ≤ a))

-- what was saved is a word
abbrev pub Words : (V : Type 0) → (ℕ → List V → ℕ) → List (Row V) → Type 0
Words V value ts = (i : ℕ) (s : List V) → In (i, s) ts → value i s < 18446744073709551616

-- a position is one of the rows with its target, or is none of them and has no place
abbrev pub IsPlace : Plan ℤ → (ℕ → List ℤ → ℕ) → List (Row ℤ) → ℕ → Type 0
IsPlace plan target ts i = ((s : List ℤ) × In (i, s) ts × (places_of plan target i ≡ Some (target i s))) ⊎ (((s : List ℤ) → In (i, s) ts → ⊥) × (places_of plan target i ≡ None))

abbrev pub StandardLaw : Type 0
StandardLaw =
    (line : ℕ) (c k h q : Label) (n marks z base t a : ℕ) (plan : Plan ℤ) (value target : ℕ → List ℤ → ℕ) (ts : List (Row ℤ)) (m : Cells)
    → Room t a n marks z base m → Words ℤ value ts → ((i : ℕ) (s : List ℤ) → In (i, s) ts → target i s < z)
    → ((i : ℕ) → i < n → IsPlace plan target ts i)
    → Behind ℤ plan value target t a n marks z base 0 0 7 ts m (lap line c z (clear_acts line marks)) (lap line k n (mark_acts line a marks)) (lap line h n (check_acts line a marks)) (lap line q n (assign_acts line t a base))

-- The whole step: a first loop that saves values and targets, and the four loops behind it. The first failing move is the fault, else ManyOne
-- at the first place of the list of targets that repeats one, else all targets are replaced at once.
abbrev pub RowsEnd : (line z base marks t a n : ℕ) → (value target : ℕ → List ℤ → ℕ) → List (Row ℤ) → Cells → Option ℕ → Outcome → Type 0
RowsEnd line z base marks t a n value target ts m None r = (x : Cells) × (r ≡ Finished x) × Done ℤ value target t a n marks z base ts m x
RowsEnd line z base marks t a n value target ts m (Some k) r = r ≡ Failed 3 (key_of 0 7 (suc (slice_index_or (iterations_of ts) k 0)) ManyOne)

abbrev pub StepEnds : (line z base marks t a n : ℕ) → Plan ℤ → (value target : ℕ → List ℤ → ℕ) → Cells → Result (List (Row ℤ)) Failure → Outcome → Type 0
StepEnds line z base marks t a n plan value target m (Ok ts) r = RowsEnd line z base marks t a n value target ts m (first_repeat (targets_of target ts)) r
StepEnds line z base marks t a n plan value target m (Err f) r = r ≡ Failed 0 (key_of (plan.act f.move) (plan.op f.move) (suc f.iteration) f.name)

abbrev pub SavedStepLaw : Type 0
SavedStepLaw =
    (line : ℕ) (p : Lap) (c k h q : Label) (n marks z base t a : ℕ) (plan : Plan ℤ) (value target : ℕ → List ℤ → ℕ) (m : Cells)
    → Saving ℤ plan value target t a p.count p.acts m n → Room t a n marks z base m
    → ((i : ℕ) (s : List ℤ) → i < n → ended plan i ≡ Ok (Some s) → (value i s < 18446744073709551616) × (target i s < z))
    → (let ps : List Phase = five p (lap line c z (clear_acts line marks)) (lap line k n (mark_acts line a marks)) (lap line h n (check_acts line a marks)) (lap line q n (assign_acts line t a base)) in
    FreeList ps m × ((chunk : ℕ) → IsChunk chunk → StepEnds line z base marks t a n plan value target m (whole plan.moves (rows_of plan n)) (result ps m chunk)))
