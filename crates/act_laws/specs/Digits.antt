-- Where a place stands in each dimension of a shape.
use Rattle.std.specs.Prelude.{◌≡◌, ℕ, ◌+◌, ◌/◌, ◌%◌, ◌<◌, List, [], ◌∷◌, pos}
use Rattle.ws_space.specs.Shapes.{Extents, size}
use Rattle.phase_ops.specs.declared.phase.Source.{Source}
use Rattle.phase_ops.specs.declared.phase.Source.TheVariants.{Fixed}
use Rattle.phase_ops.specs.declared.phase.Micro.{Micro}
use Rattle.phase_ops.specs.declared.phase.Micro.TheVariants as micro
use Rattle.phase_ops.specs.Phases.{source, source_cells}
use Rattle.phase_ops.specs.Free.{In}
use Rattle.act_laws.specs.Together.{Files, Scene, Level, Follows, well}
use Rattle.act_laws.specs.Seats.{Has, HasPlace}

-- no place is as great
abbrev pub LIMIT : ℕ
LIMIT = 4294967296

-- ops, and the registers of the digits
pub record Digits : Type 0 where
  pub ops : List Micro
  pub regs : List ℕ

-- The register `rest` has the place in these dimensions, of which the last one needs no op.
abbrev pub digits : List Source → ℕ → ℕ → Digits
digits [] rest k = record { ops = []; regs = [] }
digits (n ∷ []) rest k = record { ops = []; regs = rest ∷ [] }
digits (n ∷ m ∷ ns) rest k =
    let more = digits (m ∷ ns) (k + 1) (k + 1 + 1) in
    record { ops = micro.Digit rest (Fixed (pos 1)) n ∷ micro.Digit rest n (Fixed (pos LIMIT)) ∷ more.ops; regs = k ∷ more.regs }

-- the sources have these extents, and their cells may be read
abbrev pub AreExtents : Scene → List Source → Extents → Type 0
AreExtents s [] [] = Unit {0}
AreExtents s (f ∷ fs) (n ∷ ns) = (source s.cells f ≡ pos n) × ((c : ℕ) → In c (source_cells f) → In c s.may) × AreExtents s fs ns
AreExtents s fs ns = ⊥

-- the registers have, at each place, where the number that it has there stands in each dimension
abbrev pub HaveDigits : List ℕ → (ℕ → ℕ) → List ℕ → Extents → Files → Type 0
HaveDigits at g [] [] files = Unit {0}
HaveDigits at g (r ∷ rs) (n ∷ ns) files = Has at r (λ p. pos (g p % n)) files × HaveDigits at (λ p. g p / n) rs ns files
HaveDigits at g rs ns files = ⊥

-- The place is one of this shape. Where no digit is asked for, nothing is said.
abbrev pub IsPlaceIn : Extents → ℕ → Type 0
IsPlaceIn [] p = Unit {0}
IsPlaceIn (n ∷ ns) p = (p < size (n ∷ ns)) × (p < LIMIT)

-- At places of the shape no digit fails.
abbrev pub DigitsLaw : Type 0
DigitsLaw =
    (s : Scene) (at : List ℕ) (place k : ℕ) (files : Files) (fs : List Source) (e : Extents) → AreExtents s fs e → Level k files → HasPlace at place files → ((p : ℕ) → In p at → IsPlaceIn e p)
    → Follows s at k files (digits fs place k).ops well (λ n after. HaveDigits at (λ p. p) (digits fs place k).regs e after)
