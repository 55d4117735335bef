-- Where the values of a module stand while an act runs.
use Rattle.std.specs.Prelude.{◌≡◌, ℕ, ◌+◌, ◌<◌, ◌==◌, if◌then◌else◌, List, [], ◌∷◌, map, length, Option, Some, None, ℤ, pos}
use Rattle.phase_ops.specs.Phases.{Cells, cell_value}
use Rattle.phase_ops.specs.Phases as phase
use Rattle.phase_ops.specs.Free.{In}
use Rattle.hlfir_meaning.specs.Environments.{Environment}
use Rattle.hlfir_meaning.specs.Places.{column_at}
use Rattle.act_laws.specs.declared.seat.Seat.{Seat}
use Rattle.act_laws.specs.declared.seat.Seat.TheVariants.{Fixed as fixed, Cell as cell, Cells as cells, Register as register}
use Rattle.act_laws.specs.declared.seat.Seated.{Seated}
use Rattle.act_laws.specs.Together.{Files, Scene}

-- where each value stands, by its number
abbrev pub Table : Type 0
Table = ℕ → Option Seat

abbrev pub with_seat : ℕ → Seat → Table → Table
with_seat n s table = λ k. if k == n then Some s else table k

-- the seats of a list, of which a later one counts
abbrev pub later_or : Option Seat → Option Seat → Option Seat
later_or (Some s) o = Some s
later_or None o = o

abbrev pub seats_of : List Seated → Table
seats_of [] = λ k. None
seats_of (e ∷ es) = λ k. later_or (seats_of es k) (if k == e.number then Some e.seat else None)

-- what stands there at a place
abbrev pub seated : Scene → Files → Seat → ℕ → ℤ
seated s files (fixed z) p = z
seated s files (cell c) p = cell_value s.cells c
seated s files (cells first) p = cell_value s.cells (first + p)
seated s files (register r) p = phase.register (files p) r

abbrev pub column : Scene → List ℕ → Files → Seat → List ℤ
column s at files seat = map (seated s files seat) at

-- The register is written, and the cell that is loaded at the place may be read.
abbrev pub MaySit : Scene → Files → Seat → ℕ → Type 0
MaySit s files (fixed z) p = Unit {0}
MaySit s files (cell c) p = In c s.may
MaySit s files (cells first) p = In (first + p) s.may
MaySit s files (register r) p = r < length (files p)

-- The values have at the active places what stands in the seat.
pub record Sits (s : Scene) (at : List ℕ) (files : Files) (seat : Seat) (xs : List ℤ) : Type 0 where
  pub holds : xs ≡ column s at files seat
  pub may : (p : ℕ) → In p at → MaySit s files seat p

abbrev pub seat_or : Option Seat → Seat
seat_or (Some s) = s
seat_or None = fixed (pos 0)

-- Each value that is known, by its number, stands in its seat. Of other values, whose arrays may have other shapes, nothing is said.
abbrev pub Holds : Scene → List ℕ → Files → List ℕ → Table → Environment → Type 0
Holds s at files known table env = (n : ℕ) → In n known → Sits s at files (seat_or (table n)) (column_at at (env n))

-- the register has this number at each place
abbrev pub Has : List ℕ → ℕ → (ℕ → ℤ) → Files → Type 0
Has at reg f files = (p : ℕ) → In p at → (phase.register (files p) reg ≡ f p) × (reg < length (files p))

-- the register has the place itself
abbrev pub HasPlace : List ℕ → ℕ → Files → Type 0
HasPlace at place files = Has at place (λ p. pos p) files

-- The values stand in the register.
abbrev pub StandIn : List ℕ → ℕ → List ℤ → Files → Type 0
StandIn at reg xs files = (xs ≡ map (λ p. phase.register (files p) reg) at) × ((p : ℕ) → In p at → reg < length (files p))
