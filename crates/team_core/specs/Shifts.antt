-- `a(2:5) = a(1:4)` by two phases: a in the cells 0 to 4, and what is saved of it in 5 to 8.
use Rattle.std.specs.Prelude.{◌≡◌, ℕ, false, List, [], ◌∷◌, Some, None, pos, length}
use Rattle.phase_ops.specs.declared.phase.Source.TheVariants.{Fixed}
use Rattle.phase_ops.specs.declared.phase.Address.{Address}
use Rattle.phase_ops.specs.declared.phase.Micro.TheVariants as op
use Rattle.phase_ops.specs.declared.phase.Act.{Act}
use Rattle.phase_ops.specs.declared.phase.Label.{Label}
use Rattle.phase_ops.specs.declared.phase.Label.TheVariants as label
use Rattle.phase_ops.specs.declared.phase.Phase.{Phase}
use Rattle.phase_ops.specs.declared.phase.Phase.TheVariants.{Loop}
use Rattle.phase_ops.specs.Phases.{Cells}
use Rattle.team_core.specs.declared.team.Core.{Core}
use Rattle.team_core.specs.Cores.{state_of, team_of, IsCore}

-- the cell whose number the register has, counted from `base`
abbrev pub cell_at : ℕ → ℕ → Address
cell_at base reg = record { base = Fixed (pos base); terms = record { reg = reg; step = Fixed (pos 1) } ∷ [] }

abbrev pub cell_from : ℕ → Address
cell_from base = cell_at base 0

abbrev pub copy_act : ℕ → ℕ → Act
copy_act from to = record { line = 4; ops = op.Position ∷ op.Load (cell_from from) ∷ op.Store (cell_from to) 1 ∷ []; whole = false }

abbrev pub copy : Label → ℕ → ℕ → Phase
copy name from to = Loop 4 name (Fixed (pos 4)) (copy_act from to ∷ [])

abbrev pub shift : List Phase
shift = copy (label.Save 1 None) 0 5 ∷ copy (label.Assign (97 ∷ []) (Some 1) None) 5 1 ∷ []

abbrev pub shift_cells : Cells
shift_cells = 1 ∷ 2 ∷ 3 ∷ 4 ∷ 5 ∷ 0 ∷ 0 ∷ 0 ∷ 0 ∷ []

-- a running core over the two phases
pub record IsShift (ps : List Phase) (k : Core) (team : ℕ) : Type 0 where
  pub core : IsCore ps k
  pub team_is : team_of k ≡ team
  pub members : length (state_of k).members ≡ team
  pub cells : length (state_of k).cells ≡ 9
  pub phases : length ps ≡ 2
