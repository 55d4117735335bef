use Rattle.std.proofs.Common.{ℤ, ℕ}
use Rattle.phase_ops.specs.Phases.{result}
use Rattle.phase_ops.specs.Free.{FreeFrom, IsChunk}
use Rattle.loop_laws.specs.Moves.{whole}
use Rattle.loop_laws.specs.Loops.{rows_of}
use Rattle.loop_laws.proofs.Keyed.{keyed_loop, the_bridge}
use Rattle.save_laws.proofs.Saves.{saving_leaves}
use Rattle.mark_laws.specs.Checks.{five, FiveEnd}
use Rattle.mark_laws.proofs.Checks as checks
use Rattle.mark_laws.proofs.laws.five_law.Goals as goal

pub returns : goal.returns
returns x = λ p c k h q m n marks z base from act op plan value target t a w g.
    let all : (chunk : ℕ) → IsChunk chunk → FreeFrom chunk (five p c k h q) m × FiveEnd ℤ plan value target t a n marks z base act op m (whole plan.moves (rows_of plan n)) (result (five p c k h q) m chunk) = λ chunk is.
    checks.five_law ℤ p c k h q m n marks z base from act op plan value target t a w chunk is (whole plan.moves (rows_of plan n)) g
    (keyed_loop ℤ p.line p.label p.count p.acts m n chunk plan is w.fitting w.follows)
    (saving_leaves ℤ plan value target t a p.count p.acts m n w p.line p.label chunk is (whole plan.moves (rows_of plan n)) (the_bridge ℤ plan p.acts m n w.fitting.small w.follows))
    (the_bridge ℤ plan p.acts m n w.fitting.small w.follows) in
    (record { joins = (tt, (tt, (tt, (tt, (tt, tt))))); phases = λ chunk is. (all chunk is).0 }, λ chunk is. (all chunk is).1)
