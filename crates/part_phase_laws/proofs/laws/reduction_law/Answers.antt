use Rattle.std.proofs.Common.{ℤ, ℕ, refl, [], ◌∷◌}
use Rattle.phase_ops.specs.Phases.{result}
use Rattle.phase_ops.specs.Free.{FreeFrom, IsChunk}
use Rattle.loop_laws.specs.Moves.{whole}
use Rattle.loop_laws.specs.Loops.{rows_of}
use Rattle.loop_laws.proofs.Keyed.{the_bridge}
use Rattle.part_phase_laws.specs.Parts.{reducing, ReductionEnds}
use Rattle.part_phase_laws.proofs.PartCells.{part_keyed, part_leaves}
use Rattle.part_phase_laws.proofs.Joins.{reduces_all}
use Rattle.part_phase_laws.proofs.laws.reduction_law.Goals as goal

pub returns : goal.returns
returns c = λ l t f slot kind count act m n plan value w j.
    let all : (chunk : ℕ) → IsChunk chunk → FreeFrom chunk (reducing l t f slot kind count act) m × ReductionEnds ℤ plan value kind slot f n m (whole plan.moves (rows_of plan n)) (result (reducing l t f slot kind count act) m chunk) = λ chunk is.
    (let k = part_keyed ℤ plan value kind f count act m n w l t chunk is in
    let b = the_bridge ℤ plan (act ∷ []) m n w.fitting.small w.follows in
    reduces_all ℤ l t f slot kind count act m n plan value w j chunk is (whole plan.moves (rows_of plan n)) refl b k
    (part_leaves ℤ plan value kind f count act m n w l t chunk is (whole plan.moves (rows_of plan n)) refl b k)) in
    (record { joins = (tt, ((refl, refl, refl, refl, refl), tt)); phases = λ chunk is. (all chunk is).0 }, λ chunk is. (all chunk is).1)
