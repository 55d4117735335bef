-- The two phases of `a(2:5) = a(1:4)` are free of races.
use Rattle.std.proofs.Common.{◌≡◌, ℕ, ◌≤◌, true, List, [], ◌∷◌, refl, arith}
use Rattle.std.proofs.lemmas.Int.{ints}
use Rattle.std.specs.Prelude.{Some, None}
use Rattle.phase_ops.specs.declared.phase.Label.{Label}
use Rattle.phase_ops.specs.declared.phase.Label.TheVariants as label
use Rattle.phase_ops.specs.Phases.{Cells}
use Rattle.phase_ops.specs.Free.{Free, IsChunk, FreeList}
use Rattle.phase_ops.proofs.Checked.{test, tested_free}
use Rattle.team_core.specs.Laws.{MayStart}
use Rattle.team_core.specs.Shifts.{copy, copy_act, shift, shift_cells}
use Rattle.team_core.proofs.Loops.{then}

copy_free : (name : Label) (from to : ℕ) (m : Cells) → ((chunk : ℕ) → test (copy name from to) m chunk ≡ true) → Free (copy name from to) m
copy_free name from to m h = tested_free (copy name from to) m (omega (arith, ints), omega (arith, ints)) (omega arith) (λ chunk. tt) h

abbrev between : Cells
between = 1 ∷ 2 ∷ 3 ∷ 4 ∷ 5 ∷ 1 ∷ 2 ∷ 3 ∷ 4 ∷ []

shift_free : FreeList shift shift_cells
shift_free = record {
  joins = (tt, (tt, tt));
  phases = λ chunk is.
      then 4 (label.Save 1 None) 4 (copy_act 0 5 ∷ []) shift_cells between chunk is (copy (label.Assign (97 ∷ []) (Some 1) None) 5 1 ∷ []) (copy_free (label.Save 1 None) 0 5 shift_cells (λ c. refl)) refl
      (λ none. (copy_free (label.Assign (97 ∷ []) (Some 1) None) 5 1 between (λ c. refl), λ none'. tt));
}

pub shift_may : (team chunk : ℕ) → 1 ≤ team → team ≤ 64 → IsChunk chunk → MayStart shift shift_cells team chunk
shift_may team chunk some few is = record { someone = some; team_small = few; chunk_is = is; few = omega arith; free = shift_free }
