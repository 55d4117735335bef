use Rattle.std.proofs.Common.{ℤ}
use Rattle.loop_laws.specs.Moves.{whole}
use Rattle.loop_laws.specs.Loops.{rows_of}
use Rattle.loop_laws.proofs.Keyed.{keyed_loop, the_bridge}
use Rattle.loop_laws.proofs.Direct.{direct_free, direct_leaves}
use Rattle.loop_laws.proofs.laws.direct_law.Goals as goal

pub returns : goal.returns
returns c = λ l b count acts m n plan target value d. (
  direct_free ℤ plan target value count acts m n d l b,
  λ chunk is. (
    keyed_loop ℤ l b count acts m n chunk plan is d.fitting d.follows,
    direct_leaves ℤ plan target value count acts m n d l b chunk is (whole plan.moves (rows_of plan n)) (the_bridge ℤ plan acts m n d.fitting.small d.follows),
  ),
)
