use Rattle.std.proofs.Common.{ℤ, refl, [], ◌∷◌}
use Rattle.loop_laws.specs.Moves.{whole}
use Rattle.loop_laws.specs.Loops.{rows_of}
use Rattle.loop_laws.proofs.Keyed.{the_bridge}
use Rattle.part_phase_laws.proofs.PartCells.{part_free, part_keyed, part_leaves}
use Rattle.part_phase_laws.proofs.laws.part_law.Goals as goal

pub returns : goal.returns
returns c = λ l t f kind count act m n plan value w. (
  part_free ℤ plan value kind f count act m n w l t,
  λ chunk is. let k = part_keyed ℤ plan value kind f count act m n w l t chunk is in (
    k,
    part_leaves ℤ plan value kind f count act m n w l t chunk is (whole plan.moves (rows_of plan n)) refl (the_bridge ℤ plan (act ∷ []) m n w.fitting.small w.follows) k,
  ),
)
