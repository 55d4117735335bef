-- Small runs of ops, computed.
use Rattle.std.proofs.Common.{◌≡◌, refl, List, [], ◌∷◌, pos}
use Rattle.ws_base.specs.declared.fault.FaultName.TheVariants.{Overflow}
use Rattle.phase_ops.specs.declared.phase.Micro.TheVariants as op
use Rattle.phase_ops.specs.declared.phase.ScalarOp.TheVariants as scalar
use Rattle.phase_ops.specs.declared.phase.Micro.{Micro}
use Rattle.phase_ops.specs.Phases.{Cells}
use Rattle.segment_laws.specs.Segments.{Through, Out, Broke, ran}
use Rattle.segment_laws.specs.Acts.{from}

-- the values 5, 7 and the greatest INTEGER
abbrev its_cells : Cells
its_cells = 5 ∷ 7 ∷ 2147483647 ∷ []

-- is the value below 7?
abbrev below_seven : List Micro
below_seven = op.Position ∷ op.Load (from 0 0) ∷ op.Fixed (pos 7) ∷ op.Binary scalar.Lt 1 2 ∷ op.Gate 3 ∷ []

goes_through : ran 0 its_cells [] below_seven ≡ Through (pos 0 ∷ pos 5 ∷ pos 7 ∷ pos 1 ∷ pos 0 ∷ [])
goes_through = refl

a_gate_is_shut : ran 1 its_cells [] below_seven ≡ Out
a_gate_is_shut = refl

an_op_fails : ran 2 its_cells [] (op.Position ∷ op.Load (from 0 0) ∷ op.Fixed (pos 1) ∷ op.Binary scalar.Add 1 2 ∷ []) ≡ Broke 3 Overflow
an_op_fails = refl
