use Rattle.std.proofs.Common.{ℤ}
use Rattle.loop_laws.specs.Moves.{whole}
use Rattle.loop_laws.specs.Loops.{rows_of}
use Rattle.loop_laws.proofs.Keyed.{keyed_loop, the_bridge}
use Rattle.mask_laws.proofs.Controls.{control_free, control_leaves}
use Rattle.mask_laws.proofs.laws.control_law.Goals as goal

pub returns : goal.returns
returns x = λ l b count acts m n plan test t w.
    let g = the_bridge ℤ plan acts m n w.fitting.small w.follows in
    (control_free ℤ plan test t count acts m n w l b, λ chunk is. (keyed_loop ℤ l b count acts m n chunk plan is w.fitting w.follows, control_leaves ℤ plan test t count acts m n w l b chunk is (whole plan.moves (rows_of plan n)) g))
