-- Small reductions, computed.
use Rattle.std.proofs.Common.{◌≡◌, refl, false, [], ◌∷◌, ℤ, pos}
use Rattle.ws_base.specs.declared.fault.FaultName.TheVariants.{Overflow}
use Rattle.phase_ops.specs.declared.phase.Source.TheVariants.{Fixed}
use Rattle.phase_ops.specs.declared.phase.Micro.TheVariants as op
use Rattle.phase_ops.specs.declared.phase.ScalarOp.TheVariants as scalar
use Rattle.ws_base.specs.declared.op.CallWord.TheVariants as call
use Rattle.phase_ops.specs.declared.phase.Act.{Act}
use Rattle.phase_ops.specs.Phases.{key_of, Finished, Failed, result}
use Rattle.segment_laws.specs.Acts.{from}
use Rattle.part_phase_laws.specs.Parts.{reducing}

-- the terms `a + k`, with a from cell 0 on; the partials stand from cell 3 on, the slot in cell 6
abbrev term_act : ℤ → Act
term_act k = record { line = 9; ops = op.Position ∷ op.Load (from 0 0) ∷ op.Fixed k ∷ op.Binary scalar.Add 1 2 ∷ []; whole = false }

-- a product that is too large, and then a zero
product_has_a_zero : result (reducing 9 1 3 6 call.Product (Fixed (pos 3)) (term_act (pos 0))) (2147483647 ∷ 2 ∷ 0 ∷ 5 ∷ 5 ∷ 5 ∷ 5 ∷ []) 2 ≡ Finished (2147483647 ∷ 2 ∷ 0 ∷ 2147483649 ∷ 0 ∷ 5 ∷ 0 ∷ [])
product_has_a_zero = refl

-- a sum that is out of range on the way alone, and one that stays so
sum_returns : result (reducing 9 1 3 6 call.Sum (Fixed (pos 3)) (term_act (pos 0))) (2147483647 ∷ 2 ∷ 18446744073709551614 ∷ 5 ∷ 5 ∷ 5 ∷ 5 ∷ []) 1 ≡ Finished (2147483647 ∷ 2 ∷ 18446744073709551614 ∷ 2147483647 ∷ 2 ∷ 18446744073709551614 ∷ 2147483647 ∷ [])
sum_returns = refl

sum_stays_out : result (reducing 9 1 3 6 call.Sum (Fixed (pos 3)) (term_act (pos 0))) (2147483647 ∷ 2 ∷ 0 ∷ 5 ∷ 5 ∷ 5 ∷ 5 ∷ []) 2 ≡ Failed 1 (key_of 0 0 0 Overflow)
sum_stays_out = refl

-- two terms fail: the least key, and no total
terms_fail : result (reducing 9 1 3 6 call.Sum (Fixed (pos 3)) (term_act (pos 1))) (1 ∷ 2147483647 ∷ 2147483647 ∷ 5 ∷ 5 ∷ 5 ∷ 5 ∷ []) 1 ≡ Failed 0 (key_of 0 3 2 Overflow)
terms_fail = refl
