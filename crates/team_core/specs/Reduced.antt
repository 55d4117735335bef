-- A reduction of n values by two phases: the values in the cells 0 on, the partial of each unit in the cells n on, and the total
-- behind them.
use Rattle.std.specs.Prelude.{◌≡◌, ◌⊎◌, ℕ, ◌+◌, ◌*◌, ◌<◌, ◌≤◌, false, IsTrue, List, [], ◌∷◌, length, slice_index, ℤ, pos}
use Rattle.ws_base.specs.Numbers.{default_half, in_range}
use Rattle.ws_base.specs.declared.op.CallWord.{CallWord}
use Rattle.phase_ops.specs.declared.phase.Source.TheVariants.{Fixed}
use Rattle.phase_ops.specs.declared.phase.Micro.TheVariants as op
use Rattle.phase_ops.specs.declared.phase.Act.{Act}
use Rattle.phase_ops.specs.declared.phase.Phase.{Phase}
use Rattle.phase_ops.specs.declared.phase.Phase.TheVariants.{Part, Join}
use Rattle.phase_ops.specs.Phases.{Cells}
use Rattle.phase_ops.specs.Partials.{takes, is_reduction}
use Rattle.team_core.specs.Shifts.{cell_from}

-- gives the value in the cell of the iteration's number
abbrev pub value_act : Act
value_act = record { line = 3; ops = op.Position ∷ op.Load (cell_from 0) ∷ []; whole = false }

abbrev pub part : CallWord → ℕ → Phase
part k n = Part 3 (Fixed (pos n)) value_act k 1 n

abbrev pub join : CallWord → ℕ → Phase
join k n = Join 3 (Fixed (pos n)) k 1 n (2 * n)

abbrev pub reduced : CallWord → ℕ → List Phase
reduced k n = part k n ∷ join k n ∷ []

-- the values are `from` and the integers after it
pub record IsNumbered (n from : ℕ) (m : Cells) : Type 0 where
  pub room : length m ≡ 2 * n + 1
  pub values : (k : ℕ) → k < n → slice_index m k ≡ from + k

-- a reduction that takes every integer in range
abbrev pub TakesIntegers : CallWord → Type 0
TakesIntegers k = IsTrue (is_reduction k) × ((z : ℤ) → IsTrue (in_range default_half z) → IsTrue (takes default_half k z))

-- a reduction that takes 0 and 1
abbrev pub TakesTruths : CallWord → Type 0
TakesTruths k = IsTrue (is_reduction k) × IsTrue (takes default_half k (pos 0)) × IsTrue (takes default_half k (pos 1))

-- a reduction that takes so many integers from `from` on
abbrev pub Fits : CallWord → ℕ → ℕ → Type 0
Fits k n from = TakesIntegers k ⊎ (TakesTruths k × (from + n ≤ 2))
