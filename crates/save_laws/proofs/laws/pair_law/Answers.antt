use Rattle.std.proofs.Common.{ℤ, ℕ, [], ◌∷◌}
use Rattle.phase_ops.specs.Phases.{result}
use Rattle.phase_ops.specs.Free.{FreeFrom, IsChunk}
use Rattle.loop_laws.specs.Moves.{whole}
use Rattle.loop_laws.specs.Loops.{rows_of}
use Rattle.loop_laws.proofs.Keyed.{keyed_loop, the_bridge}
use Rattle.save_laws.specs.Pairs.{loop, PairEnds}
use Rattle.save_laws.proofs.Saves.{saving_leaves}
use Rattle.save_laws.proofs.Pairs.{pair}
use Rattle.save_laws.proofs.laws.pair_law.Goals as goal

pub returns : goal.returns
returns c = λ p q m n plan value target t a base w g.
    let both : (chunk : ℕ) → IsChunk chunk → FreeFrom chunk (loop p ∷ loop q ∷ []) m × PairEnds ℤ plan value target t a base n m (whole plan.moves (rows_of plan n)) (result (loop p ∷ loop q ∷ []) m chunk) = λ chunk is.
    pair ℤ p q m n plan value target t a base w chunk is (whole plan.moves (rows_of plan n)) g
    (keyed_loop ℤ p.line p.label p.count p.acts m n chunk plan is w.fitting w.follows)
    (saving_leaves ℤ plan value target t a p.count p.acts m n w p.line p.label chunk is (whole plan.moves (rows_of plan n)) (the_bridge ℤ plan p.acts m n w.fitting.small w.follows))
    (the_bridge ℤ plan p.acts m n w.fitting.small w.follows) in
    (record { joins = (tt, (tt, tt)); phases = λ chunk is. (both chunk is).0 }, λ chunk is. (both chunk is).1)
