-- The phases of the tests.
use Rattle.std.specs.Prelude.{ℕ, true, false, List, [], ◌∷◌, pos}
use Rattle.ws_base.specs.declared.fault.FaultName.TheVariants.{Bounds, Overflow}
use Rattle.ws_base.specs.declared.op.CallWord.{CallWord}
use Rattle.phase_ops.specs.declared.phase.Source.TheVariants.{Fixed, Cell}
use Rattle.phase_ops.specs.declared.phase.Address.{Address}
use Rattle.phase_ops.specs.declared.phase.Micro.{Micro}
use Rattle.phase_ops.specs.declared.phase.Micro.TheVariants as op
use Rattle.phase_ops.specs.declared.phase.Act.{Act}
use Rattle.phase_ops.specs.declared.phase.Label.TheVariants.{Stage}
use Rattle.phase_ops.specs.declared.phase.Phase.{Phase}
use Rattle.phase_ops.specs.declared.phase.Phase.TheVariants.{Set, Loop, Part, Join}
use Rattle.team_core.specs.Shifts.{cell_from}

abbrev pub once_act : List Micro → Act
once_act ops = record { line = 3; ops = ops; whole = true }

-- these ops, once
abbrev pub single : List Micro → Phase
single ops = Set 3 Stage (once_act ops ∷ [])

abbrev pub cell : ℕ → Address
cell c = record { base = Fixed (pos c); terms = [] }

abbrev pub storing : List Micro
storing = op.Fixed (pos 7) ∷ op.Store (cell 1) 0 ∷ []

abbrev pub store_seven : Phase
store_seven = single storing

-- stores 7 in the cell 0, and fails
abbrev pub overflowing : List Micro
overflowing = op.Fixed (pos 7) ∷ op.Store (cell 0) 0 ∷ op.FailIf Overflow 0 ∷ []

abbrev pub overflows : Phase
overflows = single overflowing

-- stores 9 in the cell 0, where the second digit of 17 to the base 5, which is 3, is odd, and else 7
abbrev pub choosing : List Micro
choosing = op.Fixed (pos 17) ∷ op.Digit 0 (Fixed (pos 5)) (Fixed (pos 2)) ∷ op.Fixed (pos 9) ∷ op.Fixed (pos 7) ∷ op.Select 1 2 3 ∷ op.Store (cell 0) 4 ∷ []

abbrev pub chosen : Phase
chosen = single choosing

-- lays 7 over the cell 1, and stores nothing behind a gate that is shut
abbrev pub gating : List Micro
gating = op.Fixed (pos 7) ∷ op.Least (cell 1) 0 ∷ op.Fixed (pos 0) ∷ op.Gate 2 ∷ op.Store (cell 0) 0 ∷ []

abbrev pub gated : Phase
gated = single gating

-- Stores the number of each iteration in the cells 1 on, and fails at each but the first. The cell 0 has the count.
abbrev pub number_act : Act
number_act = record { line = 5; ops = op.Position ∷ op.Store (cell_from 1) 0 ∷ op.FailIf Bounds 0 ∷ []; whole = false }

abbrev pub numbering : Phase
numbering = Loop 5 Stage (Cell 0) (number_act ∷ [])

-- the numbers of two iterations, 0 and 1, reduced: the partial in the cell 0, and the total in the cell 2
abbrev pub bit_act : Act
bit_act = record { line = 4; ops = op.Position ∷ []; whole = false }

abbrev pub bits_part : CallWord → Phase
bits_part k = Part 4 (Fixed (pos 2)) bit_act k 1 0

abbrev pub bits_join : CallWord → Phase
bits_join k = Join 4 (Fixed (pos 2)) k 1 0 2
