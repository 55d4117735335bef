-- The whole saved step, up to what the cells of its array stand for.
use Rattle.std.specs.Prelude.{◌≡◌, ℕ, suc, ◌<◌, ◌≤◌, IsTrue, ℤ, List, length, Some, Result, Ok, Err}
use Rattle.ws_base.specs.Numbers.{default_half, in_range}
use Rattle.ws_space.specs.declared.state.ArrayValue.{ArrayValue}
use Rattle.ws_space.specs.Replace.{replaced}
use Rattle.phase_ops.specs.declared.phase.Label.{Label}
use Rattle.phase_ops.specs.declared.phase.Phase.{Phase}
use Rattle.phase_ops.specs.Phases.{Cells, word, key_of, Outcome, Failed, result}
use Rattle.phase_ops.specs.Free.{FreeList, IsChunk}
use Rattle.loop_laws.specs.Moves.{Row, Failure, iterations_of, whole, targets_of, values_of}
use Rattle.loop_laws.specs.Loops.{Plan, ended, rows_of}
use Rattle.save_laws.specs.Saves.{Saving}
use Rattle.save_laws.specs.Pairs.{Lap}
use Rattle.mark_laws.specs.Checks.{five}
use Rattle.mark_laws.specs.Acts.{clear_acts, mark_acts, check_acts, assign_acts}
use Rattle.mark_laws.specs.Standard.{lap, Room}
use Rattle.mark_laws.specs.Stands.{Stand, Apart, AsReplaced}

abbrev pub StepStands : (line base : ℕ) → Plan ℤ → (ℕ → List ℤ → ℤ) → (ℕ → List ℤ → ℕ) → ArrayValue → Result (List (Row ℤ)) Failure → Outcome → Type 0
StepStands line base plan v target array (Ok ts) r = AsReplaced line base (replaced line (iterations_of ts) array (targets_of target ts) (values_of v ts)) r
StepStands line base plan v target array (Err f) r = r ≡ Failed 0 (key_of (plan.act f.move) (plan.op f.move) (suc f.iteration) f.name)

-- The first move that fails is the fault; else the phases end as `replaced` of the array, the targets and the values says.
abbrev pub StepStandsLaw : Type 0
StepStandsLaw =
    (line : ℕ) (p : Lap) (c k h q : Label) (n marks base t a : ℕ) (plan : Plan ℤ) (v : ℕ → List ℤ → ℤ) (target : ℕ → List ℤ → ℕ) (m : Cells) (array : ArrayValue)
    → Saving ℤ plan (λ i s. word (v i s)) target t a p.count p.acts m n → Room t a n marks (length array.values) base m → Apart marks (length array.values) base (length array.values)
    → (0 < array.shape.rank) × (array.shape.rank ≤ 3)
    → ((i : ℕ) (s : List ℤ) → i < n → ended plan i ≡ Ok (Some s) → IsTrue (in_range default_half (v i s)) × (word (v i s) < 18446744073709551616) × (target i s < length array.values))
    → Stand m base array.values
    → (let ps : List Phase = five p (lap line c (length array.values) (clear_acts line marks)) (lap line k n (mark_acts line a marks)) (lap line h n (check_acts line a marks)) (lap line q n (assign_acts line t a base)) in
    FreeList ps m × ((chunk : ℕ) → IsChunk chunk → StepStands line base plan v target array (whole plan.moves (rows_of plan n)) (result ps m chunk)))
