-- The whole saved step, up to what cells stand for.
use Rattle.std.proofs.Common.{◌≡◌, ℕ, ◌<◌, ◌≤◌, List, length, Some, Result, Ok, Err, ℤ}
use Rattle.std.specs.Prelude.{IsTrue}
use Rattle.ws_base.specs.Numbers.{default_half, in_range}
use Rattle.ws_space.specs.declared.state.ArrayValue.{ArrayValue}
use Rattle.ws_space.specs.Values.{first_repeat}
use Rattle.phase_ops.specs.Phases.{Cells, word, Outcome}
use Rattle.loop_laws.specs.Moves.{Row, Failure, targets_of}
use Rattle.loop_laws.specs.Loops.{Plan, ended, rows_of}
use Rattle.loop_laws.specs.Laws.{Bridged}
use Rattle.mark_laws.specs.Standard.{Room, StepEnds}
use Rattle.mark_laws.specs.Stands.{Stand, Apart}
use Rattle.mark_laws.specs.Stepped.{StepStands}
use Rattle.loop_laws.proofs.Direct.{left}
use Rattle.mark_laws.proofs.Stands.{as_replaced}

pub step_stands : (line n marks base t a : ℕ) (plan : Plan ℤ) (v : ℕ → List ℤ → ℤ) (target : ℕ → List ℤ → ℕ) (m : Cells) (array : ArrayValue)
    → Room t a n marks (length array.values) base m → Apart marks (length array.values) base (length array.values)
    → (0 < array.shape.rank) × (array.shape.rank ≤ 3)
    → ((i : ℕ) (s : List ℤ) → i < n → ended plan i ≡ Ok (Some s) → IsTrue (in_range default_half (v i s)) × (word (v i s) < 18446744073709551616) × (target i s < length array.values))
    → Stand m base array.values
    → (x : Result (List (Row ℤ)) Failure) → Bridged ℤ plan.moves (rows_of plan n) x → (r : Outcome) → StepEnds line (length array.values) base marks t a n plan (λ i s. word (v i s)) target m x r → StepStands line base plan v target array x r
step_stands line n marks base t a plan v target m array room am rank good stand (Ok ts) b r w =
    as_replaced line base marks t a n target v ts m array r rank room.base_apart.0 room.base_apart.1 am (λ i s h. let q = left ℤ plan n ts b i s h in (good i s q.0 q.1).0) stand (first_repeat (targets_of target ts)) w
step_stands line n marks base t a plan v target m array room am rank good stand (Err f) b r w = w
