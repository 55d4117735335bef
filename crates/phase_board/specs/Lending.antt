-- The registers that a memory lends.
use Rattle.std.specs.Prelude.{◌++◌, List, ℤ, length, take, drop}
use Rattle.std.specs.Borrow.{Lends, MutBor, Fml, Array, i64}
use Rattle.phase_board.specs.Memories.{Parts}
use Rattle.phase_board.specs.contracts.memory.Memory.{the_row}

-- as many as there were, with the new ones at the front
abbrev pub refilled : List ℤ → List ℤ → List ℤ
refilled old new = take (length old) (new ++ drop (length new) old)

-- the memory ends with these registers
abbrev pub LendsRegisters : MutBor Parts → MutBor (List ℤ) → Fml
LendsRegisters s r = Lends the_row (Array i64 0) s r (λ x. record s.now { registers = refilled s.now.registers x })
