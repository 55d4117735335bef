-- Small loops with masks, computed.
use Rattle.std.proofs.Common.{◌≡◌, refl, [], ◌∷◌, ℤ, pos}
use Rattle.ws_base.specs.declared.fault.FaultName.TheVariants.{Overflow}
use Rattle.phase_ops.specs.declared.phase.Source.TheVariants.{Fixed}
use Rattle.phase_ops.specs.declared.phase.Micro.TheVariants as op
use Rattle.phase_ops.specs.declared.phase.ScalarOp.TheVariants as scalar
use Rattle.phase_ops.specs.declared.phase.Label.TheVariants.{Stage}
use Rattle.phase_ops.specs.declared.phase.Phase.{Phase}
use Rattle.phase_ops.specs.declared.phase.Phase.TheVariants.{Loop}
use Rattle.phase_ops.specs.Phases.{key, key_of, after_phase}
use Rattle.segment_laws.specs.Acts.{from}
use Rattle.mask_laws.specs.Layers.{layered}
use Rattle.mask_laws.specs.Idles.{idle_layered}

-- `where (a + 1 > k) b = a + c`: a from cell 0 on, b from 2 on, c from 4 on
abbrev masked_loop : ℤ → Phase
masked_loop k = Loop 9 Stage (Fixed (pos 2))
    (layered
    (record { line = 8; ops = op.Position ∷ op.Load (from 0 0) ∷ op.Fixed (pos 1) ∷ op.Binary scalar.Add 1 2 ∷ op.Fixed k ∷ op.Binary scalar.Gt 3 4 ∷ [] } ∷ [])
    9
    (op.Gate 5 ∷ op.Load (from 4 0) ∷ op.Binary scalar.Add 1 7 ∷ op.Store (from 2 0) 8 ∷ []))

-- the mask fails at the second position and the right side at the first, and the mask comes first
mask_fails : key (masked_loop (pos 0)) (1 ∷ 2147483647 ∷ 0 ∷ 0 ∷ 2147483647 ∷ 0 ∷ []) 1 ≡ key_of 0 3 2 Overflow
mask_fails = refl

-- the right side would fail at the first position, which is not active
one_is_active : after_phase (masked_loop (pos 5)) (1 ∷ 10 ∷ 7 ∷ 7 ∷ 2147483647 ∷ 3 ∷ []) 1 ≡ 1 ∷ 10 ∷ 7 ∷ 13 ∷ 2147483647 ∷ 3 ∷ []
one_is_active = refl

-- where all are active, it fails in the second act
right_side_fails : key (masked_loop (pos 0)) (1 ∷ 10 ∷ 7 ∷ 7 ∷ 2147483647 ∷ 3 ∷ []) 2 ≡ key_of 1 8 1 Overflow
right_side_fails = refl

-- a mask `a > 5` under a control, which is false at the second of three positions: the control from cell 0 on, a from 3 on, the mask from 6 on
under_control : after_phase
    (Loop 9 Stage (Fixed (pos 3)) (idle_layered 9 6 (record { line = 8; ops = op.Position ∷ op.Load (from 0 0) ∷ op.Gate 1 ∷ [] } ∷ []) (op.Load (from 3 0) ∷ op.Fixed (pos 5) ∷ op.Binary scalar.Gt 3 4 ∷ op.Store (from 6 0) 5 ∷ [])))
    (1 ∷ 0 ∷ 1 ∷ 9 ∷ 9 ∷ 2 ∷ 7 ∷ 7 ∷ 7 ∷ []) 2 ≡ 1 ∷ 0 ∷ 1 ∷ 9 ∷ 9 ∷ 2 ∷ 1 ∷ 18446744073709551614 ∷ 0 ∷ []
under_control = refl
