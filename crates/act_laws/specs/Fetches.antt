-- Ops that bring what stands in a seat into a register.
use Rattle.std.specs.Prelude.{ℕ, List, [], ◌∷◌, Ok, ℤ, pos}
use Rattle.ws_base.specs.Outcomes.{Staged}
use Rattle.phase_ops.specs.declared.phase.Source.TheVariants.{Fixed}
use Rattle.phase_ops.specs.declared.phase.Address.{Address}
use Rattle.phase_ops.specs.declared.phase.Micro.{Micro}
use Rattle.phase_ops.specs.declared.phase.Micro.TheVariants as micro
use Rattle.act_laws.specs.declared.seat.Seat.{Seat}
use Rattle.act_laws.specs.declared.seat.Seat.TheVariants.{Fixed as fixed, Cell as cell, Cells as cells, Register as register}
use Rattle.act_laws.specs.Together.{Files, Scene, Level, Follows}
use Rattle.act_laws.specs.Seats.{Sits, HasPlace, StandIn}

-- ops, and the register of a value
pub record Fetched : Type 0 where
  pub ops : List Micro
  pub reg : ℕ

abbrev pub cell_address : ℕ → Address
cell_address c = record { base = Fixed (pos c); terms = [] }

-- the cell this far behind the first one
abbrev pub indexed_address : ℕ → ℕ → Address
indexed_address first reg = record { base = Fixed (pos first); terms = record { reg = reg; step = Fixed (pos 1) } ∷ [] }

-- the value in a register; the next op has the number k, and the register `place` has the place
abbrev pub fetched : ℕ → ℕ → Seat → Fetched
fetched place k (fixed z) = record { ops = micro.Fixed z ∷ []; reg = k }
fetched place k (cell c) = record { ops = micro.Load (cell_address c) ∷ []; reg = k }
fetched place k (cells first) = record { ops = micro.Load (indexed_address first place) ∷ []; reg = k }
fetched place k (register r) = record { ops = []; reg = r }

-- They never fail, and leave in the register what stands in the seat.
abbrev pub FetchLaw : Type 0
FetchLaw =
    (s : Scene) (at : List ℕ) (place k : ℕ) (files : Files) (seat : Seat) (xs : List ℤ) → Level k files → HasPlace at place files → Sits s at files seat xs
    → Follows s at k files (fetched place k seat).ops (let r : Staged (List ℤ) = Ok xs in r) (StandIn at (fetched place k seat).reg)
