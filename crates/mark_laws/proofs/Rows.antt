-- A small step with five phases, computed.
use Rattle.std.proofs.Common.{◌≡◌, refl, List, [], ◌∷◌, pos}
use Rattle.ws_base.specs.declared.fault.FaultName.TheVariants.{ManyOne}
use Rattle.phase_ops.specs.declared.phase.Micro.TheVariants as op
use Rattle.phase_ops.specs.declared.phase.ScalarOp.TheVariants as scalar
use Rattle.phase_ops.specs.declared.phase.Label.TheVariants.{Stage}
use Rattle.phase_ops.specs.declared.phase.Phase.{Phase}
use Rattle.phase_ops.specs.Phases.{key_of, Finished, Failed, result}
use Rattle.segment_laws.specs.Acts.{from}
use Rattle.mark_laws.specs.Checks.{five}
use Rattle.mark_laws.specs.Acts.{saver_acts, clear_acts, mark_acts, check_acts, assign_acts}
use Rattle.mark_laws.specs.Standard.{lap}

-- `a(v(1:2)) = b(1:2)`: a from cell 0 on, b from 2 on, v from 4 on, the values from 6 on, the targets from 8 on, the marks from 10 on
abbrev the_step : List Phase
the_step = five
    (lap 9 Stage 2 (saver_acts 9 6 8 4 3 ((op.Position ∷ op.Load (from 4 0) ∷ op.Fixed (pos 1) ∷ op.Binary scalar.Sub 1 2 ∷ []) ∷ (op.Load (from 2 0) ∷ []) ∷ [])))
    (lap 9 Stage 2 (clear_acts 9 10)) (lap 9 Stage 2 (mark_acts 9 8 10)) (lap 9 Stage 2 (check_acts 9 8 10)) (lap 9 Stage 2 (assign_acts 9 6 8 0))

targets_differ : result the_step (0 ∷ 0 ∷ 11 ∷ 12 ∷ 2 ∷ 1 ∷ 0 ∷ 0 ∷ 0 ∷ 0 ∷ 0 ∷ 0 ∷ []) 1 ≡ Finished (12 ∷ 11 ∷ 11 ∷ 12 ∷ 2 ∷ 1 ∷ 11 ∷ 12 ∷ 1 ∷ 0 ∷ 1 ∷ 0 ∷ [])
targets_differ = refl

a_target_repeats : result the_step (0 ∷ 0 ∷ 11 ∷ 12 ∷ 1 ∷ 1 ∷ 0 ∷ 0 ∷ 0 ∷ 0 ∷ 0 ∷ 0 ∷ []) 2 ≡ Failed 3 (key_of 0 7 2 ManyOne)
a_target_repeats = refl
