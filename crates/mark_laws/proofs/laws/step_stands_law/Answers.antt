use Rattle.std.proofs.Common.{ℤ, ℕ, length, List}
use Rattle.phase_ops.specs.declared.phase.Phase.{Phase}
use Rattle.phase_ops.specs.Phases.{word, result}
use Rattle.phase_ops.specs.Free.{FreeFrom, IsChunk}
use Rattle.loop_laws.specs.Moves.{whole}
use Rattle.loop_laws.specs.Loops.{rows_of}
use Rattle.loop_laws.proofs.Keyed.{the_bridge}
use Rattle.mark_laws.specs.Checks.{five}
use Rattle.mark_laws.specs.Acts.{clear_acts, mark_acts, check_acts, assign_acts}
use Rattle.mark_laws.specs.Standard.{lap, StepEnds}
use Rattle.mark_laws.proofs.Steps.{saved_step}
use Rattle.mark_laws.proofs.Stepped.{step_stands}
use Rattle.mark_laws.proofs.laws.step_stands_law.Goals as goal

pub returns : goal.returns
returns x = λ line p c k h q n marks base t a plan v target m array w room am rank good stand.
    let ps : List Phase = five p (lap line c (length array.values) (clear_acts line marks)) (lap line k n (mark_acts line a marks)) (lap line h n (check_acts line a marks)) (lap line q n (assign_acts line t a base)) in
    let all : (chunk : ℕ) → IsChunk chunk → FreeFrom chunk ps m × StepEnds line (length array.values) base marks t a n plan (λ i s. word (v i s)) target m (whole plan.moves (rows_of plan n)) (result ps m chunk) =
    saved_step line p c k h q n marks (length array.values) base t a plan (λ i s. word (v i s)) target m w room (λ i s l e. let g = good i s l e in (g.1, g.2)) in (
      record { joins = (tt, (tt, (tt, (tt, (tt, tt))))); phases = λ chunk is. (all chunk is).0 },
      λ chunk is. step_stands line n marks base t a plan v target m array room am rank good stand (whole plan.moves (rows_of plan n)) (the_bridge ℤ plan p.acts m n w.fitting.small w.follows) (result ps m chunk) (all chunk is).1,
    )
