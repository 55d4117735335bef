use Rattle.std.proofs.Common.{ℕ, List}
use Rattle.phase_ops.specs.declared.phase.Phase.{Phase}
use Rattle.phase_ops.specs.Phases.{result}
use Rattle.phase_ops.specs.Free.{FreeFrom, IsChunk}
use Rattle.loop_laws.specs.Moves.{whole}
use Rattle.loop_laws.specs.Loops.{rows_of}
use Rattle.mark_laws.specs.Checks.{five}
use Rattle.mark_laws.specs.Acts.{clear_acts, mark_acts, check_acts, assign_acts}
use Rattle.mark_laws.specs.Standard.{lap, StepEnds}
use Rattle.mark_laws.proofs.Steps.{saved_step}
use Rattle.mark_laws.proofs.laws.saved_step_law.Goals as goal

pub returns : goal.returns
returns x = λ line p c k h q n marks z base t a plan value target m w room good.
    let ps : List Phase = five p (lap line c z (clear_acts line marks)) (lap line k n (mark_acts line a marks)) (lap line h n (check_acts line a marks)) (lap line q n (assign_acts line t a base)) in
    let all : (chunk : ℕ) → IsChunk chunk → FreeFrom chunk ps m × StepEnds line z base marks t a n plan value target m (whole plan.moves (rows_of plan n)) (result ps m chunk) = saved_step line p c k h q n marks z base t a plan value target m w room good in
    (record { joins = (tt, (tt, (tt, (tt, (tt, tt))))); phases = λ chunk is. (all chunk is).0 }, λ chunk is. (all chunk is).1)
