-- The loop of `d = a + b + c` over n elements.
use Rattle.std.specs.Prelude.{ℕ, ◌*◌, false, [], ◌∷◌, pos}
use Rattle.phase_ops.specs.declared.phase.Source.TheVariants.{Fixed}
use Rattle.phase_ops.specs.declared.phase.Micro.TheVariants as op
use Rattle.phase_ops.specs.declared.phase.ScalarOp.TheVariants.{Add}
use Rattle.phase_ops.specs.declared.phase.Act.{Act}
use Rattle.phase_ops.specs.declared.phase.Label.TheVariants.{Stage}
use Rattle.phase_ops.specs.declared.phase.Phase.{Phase}
use Rattle.phase_ops.specs.declared.phase.Phase.TheVariants.{Loop}
use Rattle.team_core.specs.Shifts.{cell_from}

-- a, b, c and d have n cells each, from the cell 0 on
abbrev pub add_act : ℕ → Act
add_act n = record {
  line = 4;
  ops = op.Position ∷ op.Load (cell_from 0) ∷ op.Load (cell_from n) ∷ op.Load (cell_from (2 * n)) ∷ op.Binary Add 1 2 ∷ op.Binary Add 4 3 ∷ op.Store (cell_from (3 * n)) 5 ∷ [];
  whole = false;
}

abbrev pub added : ℕ → Phase
added n = Loop 4 Stage (Fixed (pos n)) (add_act n ∷ [])
