use Rattle.std.proofs.Common.{ℤ, ℕ, [], ◌∷◌, ◌+◌}
use Rattle.phase_ops.specs.Phases.{after_phase, result}
use Rattle.phase_ops.specs.Free.{FreeFrom, IsChunk}
use Rattle.loop_laws.specs.Moves.{whole}
use Rattle.loop_laws.specs.Loops.{rows_of}
use Rattle.loop_laws.proofs.Keyed.{keyed_loop, the_bridge}
use Rattle.loop_laws.proofs.Direct.{direct_leaves}
use Rattle.save_laws.specs.Pairs.{loop}
use Rattle.save_laws.specs.Values.{ValuePairEnds}
use Rattle.save_laws.proofs.Values.{saving_direct, saved_values, value_pair}
use Rattle.save_laws.proofs.laws.value_pair_law.Goals as goal

pub returns : goal.returns
returns c = λ p q m n plan target value t w g.
    let d = saving_direct ℤ plan value t p.count p.acts m n w in
    let b = the_bridge ℤ plan p.acts m n w.fitting.small w.follows in
    let both : (chunk : ℕ) → IsChunk chunk → FreeFrom chunk (loop p ∷ loop q ∷ []) m × ValuePairEnds ℤ plan target value t n m (whole plan.moves (rows_of plan n)) (result (loop p ∷ loop q ∷ []) m chunk) = λ chunk is.
    value_pair ℤ p q m n plan target value t w chunk is (whole plan.moves (rows_of plan n)) g
    (keyed_loop ℤ p.line p.label p.count p.acts m n chunk plan is w.fitting w.follows)
    b
    (saved_values ℤ plan value t p.count p.acts m n w (after_phase (loop p) m chunk) (whole plan.moves (rows_of plan n)) b (direct_leaves ℤ plan (λ i s. t + i) value p.count p.acts m n d p.line p.label chunk is (whole plan.moves (rows_of plan n)) b)) in
    (record { joins = (tt, (tt, tt)); phases = λ chunk is. (both chunk is).0 }, λ chunk is. (both chunk is).1)
