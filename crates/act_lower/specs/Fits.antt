-- What ops of a value are, whatever the cells hold: plain, over words, and each names only registers of earlier ones.
use Rattle.std.specs.Prelude.{ℕ, ◌+◌, ◌*◌, ◌<◌, List, [], ◌∷◌, length, pos, ◌<ℤ◌}
use Rattle.ws_space.specs.declared.shape.Dim.{Dim}
use Rattle.phase_ops.specs.declared.phase.Source.{Source}
use Rattle.phase_ops.specs.declared.phase.Micro.{Micro}
use Rattle.phase_ops.specs.Phases.{Cells, source}
use Rattle.phase_ops.specs.Free.{In, NameEarlier}
use Rattle.hlfir_ops.specs.declared.what.What.{What}
use Rattle.hlfir_ops.specs.declared.what.What.TheVariants as what
use Rattle.hlfir_ops.specs.declared.op.Op.{Op, out-Op}
use Rattle.act_laws.specs.declared.seat.Seat.{Seat}
use Rattle.act_laws.specs.declared.seat.Seat.TheVariants.{Fixed as fixed, Register as register}
use Rattle.act_laws.specs.Seats.{Table, seat_or}
use Rattle.act_laws.specs.Words.{IsWord, AreWordy}
use Rattle.act_lower.specs.Code.{Todo, elements, body, Task, value_code}

-- constants are words
abbrev pub WhatFits : What → Type 0
WhatFits (what.Constant c) = IsWord c
WhatFits w = Unit {0}

abbrev pub OpsFit : List Op → Type 0
OpsFit [] = Unit {0}
OpsFit (op ∷ ops) = WhatFits (out-Op op).what × OpsFit ops

-- how many cells an element of each dimension has
abbrev pub DimsFit : List Dim → ℕ → Type 0
DimsFit [] m = Unit {0}
DimsFit (d ∷ ds) m = IsWord (pos m) × DimsFit ds (m * d.extent)

abbrev pub TodoFits : Todo → Type 0
TodoFits (elements first ds ps) = DimsFit ds 1
TodoFits (body ops) = OpsFit ops

abbrev pub TasksFit : List Task → Type 0
TasksFit [] = Unit {0}
TasksFit (t ∷ ts) = TodoFits t.todo × TasksFit ts

-- a word, or a register before this one
abbrev pub SeatFits : ℕ → Seat → Type 0
SeatFits k (fixed z) = IsWord z
SeatFits k (register r) = r < k
SeatFits k s = Unit {0}

abbrev pub TableFits : ℕ → Table → Type 0
TableFits k table = (n : ℕ) → SeatFits k (seat_or (table n))

abbrev pub ArePositive : Cells → List Source → Type 0
ArePositive m counts = (f : Source) → In f counts → pos 0 <ℤ source m f

-- ops from the register k on, over these cells
abbrev pub IsSound : Cells → ℕ → List Micro → Type 0
IsSound m k ops = NameEarlier k ops × AreWordy m ops

abbrev pub SoundLaw : Type 0
SoundLaw =
    (m : Cells) (counts : List Source) (place k : ℕ) (table : Table) (v : ℕ) (ts : List Task) → place < k → TableFits k table → TasksFit ts → ArePositive m counts
    → IsSound m k (value_code counts place k table v ts).ops × ((value_code counts place k table v ts).reg < k + length (value_code counts place k table v ts).ops)
