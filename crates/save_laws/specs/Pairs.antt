-- Save, then assign, as lists of phases.
use Rattle.std.specs.Prelude.{◌≡◌, ℕ, suc, ℤ, List, [], ◌∷◌, Result, Ok, Err}
use Rattle.phase_ops.specs.declared.phase.Source.{Source}
use Rattle.phase_ops.specs.declared.phase.Act.{Act}
use Rattle.phase_ops.specs.declared.phase.Label.{Label}
use Rattle.phase_ops.specs.declared.phase.Phase.{Phase}
use Rattle.phase_ops.specs.declared.phase.Phase.TheVariants.{Loop}
use Rattle.phase_ops.specs.Phases.{Cells, key_of, Outcome, Finished, Failed, result}
use Rattle.phase_ops.specs.Free.{FreeList, IsChunk}
use Rattle.loop_laws.specs.Moves.{Row, Failure, whole}
use Rattle.loop_laws.specs.Loops.{Plan, rows_of}
use Rattle.save_laws.specs.Saves.{Saving, Saved, Assigning, Assigned}

-- the lines, labels, counts and acts of a loop
pub record Lap : Type 0 where
  pub line : ℕ
  pub label : Label
  pub count : Source
  pub acts : List Act

abbrev pub loop : Lap → Phase
loop p = Loop p.line p.label p.count p.acts

-- what whole maps with these rows, or this failure, make of the memory
abbrev pub PairEnds : (V : Type 0) → Plan V → (value target : ℕ → List V → ℕ) → (t a base n : ℕ) → Cells → Result (List (Row V)) Failure → Outcome → Type 0
PairEnds V plan value target t a base n m (Ok ts) r = (m' : Cells) × (r ≡ Finished m') × Assigned V value target t a base n ts m m'
PairEnds V plan value target t a base n m (Err f) r = r ≡ Failed 0 (key_of (plan.act f.move) (plan.op f.move) (suc f.iteration) f.name)

-- Where targets differ, whatever the right side loads: all targets are replaced at once, or the first move that fails is the fault.
abbrev pub PairLaw : Type 0
PairLaw =
    (p q : Lap) (m : Cells) (n : ℕ) (plan : Plan ℤ) (value target : ℕ → List ℤ → ℕ) (t a base : ℕ)
    → Saving ℤ plan value target t a p.count p.acts m n
    → ((ts : List (Row ℤ)) (m' : Cells) → whole plan.moves (rows_of plan n) ≡ Ok ts → Saved ℤ value target t a n ts m m' → Assigning ℤ value target t a base ts q.count q.acts m' n)
    → FreeList (loop p ∷ loop q ∷ []) m
    × ((chunk : ℕ) → IsChunk chunk → PairEnds ℤ plan value target t a base n m (whole plan.moves (rows_of plan n)) (result (loop p ∷ loop q ∷ []) m chunk))
