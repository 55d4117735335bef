-- Ops of values, written out: how many they are, and what they do at one iteration.
use Rattle.std.specs.Prelude.{ℕ, ◌+◌, false, List, [], ◌∷◌, ◌++◌, length, None, pos, neg_ℤ}
use Rattle.ws_space.specs.declared.shape.Dim.{Dim}
use Rattle.phase_ops.specs.declared.effect.Effect.{Effect}
use Rattle.phase_ops.specs.declared.phase.Source.{Source}
use Rattle.phase_ops.specs.declared.phase.Source.TheVariants.{Fixed, Cell}
use Rattle.phase_ops.specs.declared.phase.Micro.{Micro}
use Rattle.phase_ops.specs.declared.phase.Micro.TheVariants as micro
use Rattle.phase_ops.specs.Phases.{Cells, acts_events, makes}
use Rattle.hlfir_ops.specs.declared.kinds.Elem.TheVariants.{I32}
use Rattle.hlfir_ops.specs.declared.kinds.ValueKind.TheVariants as kind
use Rattle.hlfir_ops.specs.declared.what.ValueBinary.{ValueBinary}
use Rattle.hlfir_ops.specs.declared.what.ValueBinary.TheVariants as binary
use Rattle.hlfir_ops.specs.declared.what.What.TheVariants as what
use Rattle.hlfir_ops.specs.Trees.{op_of}
use Rattle.hlfir_meaning.specs.Example.{value, gives}
use Rattle.act_laws.specs.declared.seat.Seat.TheVariants as seat
use Rattle.act_laws.specs.Seats.{Table, with_seat}
use Rattle.act_laws.specs.Fetches.{Fetched, indexed_address}
use Rattle.act_laws.specs.Digits.{digits}
use Rattle.act_lower.specs.declared.section.Pick.{Pick}
use Rattle.act_lower.specs.declared.section.Pick.TheVariants.{Single as single, Steps as steps}
use Rattle.act_lower.specs.Sections.{element_address, offset}
use Rattle.act_lower.specs.Code.{Todo, elements, body, Task, value_code}

abbrev pub no_seats : Table
no_seats n = None

-- what the ops do at an iteration
abbrev pub done_by : List Micro → Cells → ℕ → List Effect
done_by ops m i = makes (acts_events i 0 (record { line = 1; ops = ops; whole = false } ∷ []) m)

abbrev pub task : ℕ → Todo → Task
task n t = record { number = n; todo = t }

-- ---- `v = u`, where v has the cells from 0 on and u those from 4 on

abbrev pub copied : Fetched
copied = value_code [] 0 1 (with_seat 1 (seat.Cells 4) no_seats) 1 []

abbrev pub copy_ops : List Micro
copy_ops = micro.Position ∷ (copied.ops ++ micro.Store (indexed_address 0 0) copied.reg ∷ [])

abbrev pub few_cells : Cells
few_cells = 0 ∷ 0 ∷ 0 ∷ 0 ∷ 5 ∷ 6 ∷ 7 ∷ 8 ∷ []

-- ---- `v(2:3,2:3) = (u(1:2,2:3) + u(3:4,2:3) + u(2:3,1:2) + u(2:3,3:4)) / 4`, where both have 4 rows and 4 columns, u from cell 0 on and v from cell 16 on

abbrev pub four : Dim
four = record { lower = pos 1; extent = 4 }

abbrev pub from : ℕ → Pick
from n = steps (Fixed (pos n)) (pos 1)

abbrev pub block : ℕ → ℕ → Todo
block i j = elements 0 (four ∷ four ∷ []) (from i ∷ from j ∷ [])

-- an elemental of one operation of two arrays, and one of an array and a scalar; each has number n
abbrev pub of_arrays : ValueBinary → ℕ → ℕ → ℕ → Task
of_arrays o n a b = task n (body (gives what.Apply (a ∷ []) (kind.Scalar I32) ∷ gives what.Apply (b ∷ []) (kind.Scalar I32) ∷ gives (what.Binary o) ((n + 1) ∷ (n + 2) ∷ []) (kind.Scalar I32) ∷ op_of what.YieldElement 0 (value (n + 3) ∷ []) None [] ∷ []))

abbrev pub with_scalar : ValueBinary → ℕ → ℕ → ℕ → Task
with_scalar o n a k = task n (body (gives what.Apply (a ∷ []) (kind.Scalar I32) ∷ gives (what.Binary o) ((n + 1) ∷ k ∷ []) (kind.Scalar I32) ∷ op_of what.YieldElement 0 (value (n + 2) ∷ []) None [] ∷ []))

-- 2 is the constant 4
abbrev pub stencil_seats : Table
stencil_seats = with_seat 2 (seat.Fixed (pos 4)) no_seats

abbrev pub stencil_tasks : List Task
stencil_tasks =
    task 3 (block 1 2) ∷ task 4 (block 3 2) ∷ of_arrays binary.Add 5 3 4 ∷ task 9 (block 2 1) ∷ of_arrays binary.Add 10 5 9 ∷ task 14 (block 2 3) ∷ of_arrays binary.Add 15 10 14
    ∷ with_scalar binary.Div 19 15 2 ∷ []

abbrev pub counts : List Source
counts = Fixed (pos 2) ∷ Fixed (pos 2) ∷ []

abbrev pub averaged : Fetched
averaged = value_code counts 0 1 stencil_seats 19 stencil_tasks

-- The digits of the value are those of the target.
abbrev pub stencil_ops : List Micro
stencil_ops = micro.Position ∷ (averaged.ops ++ micro.Store (element_address 16 (offset (four ∷ four ∷ []) (from 2 ∷ from 2 ∷ []) (digits counts 0 1).regs 1 (1 + length averaged.ops))) averaged.reg ∷ [])

-- u(i,j) is 10 i + j, but for u(4,3), and k stands behind u
abbrev pub board : ℕ → ℕ → Cells
board u43 k =
    11 ∷ 21 ∷ 31 ∷ 41 ∷ 12 ∷ 22 ∷ 32 ∷ 42 ∷ 13 ∷ 23 ∷ 33 ∷ u43 ∷ 14 ∷ 24 ∷ 34 ∷ 44 ∷ k ∷ 0 ∷ 0 ∷ 0 ∷ 0 ∷ 0 ∷ 0 ∷ 0 ∷ 0 ∷ 0 ∷ 0 ∷ 0 ∷ 0 ∷ 0 ∷ 0 ∷ 0 ∷ []

-- ---- `u(k, 4:1:-2)` at its two places, where k stands in a cell behind u

abbrev pub backwards : Fetched
backwards = value_code (Fixed (pos 2) ∷ []) 0 1 no_seats 3 (task 3 (elements 0 (four ∷ four ∷ []) (single (Cell 16) ∷ steps (Fixed (pos 4)) (neg_ℤ (pos 2)) ∷ [])) ∷ [])

abbrev pub backward_ops : List Micro
backward_ops = micro.Position ∷ (backwards.ops ++ micro.Store (indexed_address 20 0) backwards.reg ∷ [])
