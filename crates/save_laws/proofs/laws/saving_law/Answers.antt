use Rattle.std.proofs.Common.{ℤ}
use Rattle.loop_laws.specs.Moves.{whole}
use Rattle.loop_laws.specs.Loops.{rows_of}
use Rattle.loop_laws.proofs.Keyed.{keyed_loop, the_bridge}
use Rattle.save_laws.proofs.Saves.{saving_free, saving_leaves}
use Rattle.save_laws.proofs.laws.saving_law.Goals as goal

pub returns : goal.returns
returns c = λ l b count acts m n plan value target t a w. (
  saving_free ℤ plan value target t a count acts m n w l b,
  λ chunk is. (
    keyed_loop ℤ l b count acts m n chunk plan is w.fitting w.follows,
    saving_leaves ℤ plan value target t a count acts m n w l b chunk is (whole plan.moves (rows_of plan n)) (the_bridge ℤ plan acts m n w.fitting.small w.follows),
  ),
)
