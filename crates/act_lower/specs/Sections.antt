-- Sections of arrays: the op of an act that loads an element.
use Rattle.std.specs.Prelude.{◌≡◌, ℕ, ◌+◌, ◌*◌, ◌/◌, ◌%◌, List, [], ◌∷◌, ◌++◌, length, Ok, ℤ, pos, ◌+ℤ◌, ◌-ℤ◌, ◌*ℤ◌}
use Rattle.ws_space.specs.declared.shape.Dim.{Dim}
use Rattle.ws_space.specs.declared.state.ArrayValue.{ArrayValue}
use Rattle.ws_space.specs.Shapes.{count, place, dims}
use Rattle.ws_space.specs.Subscripts.{stepped}
use Rattle.ws_space.specs.Values.{value_at}
use Rattle.phase_ops.specs.declared.phase.Source.{Source}
use Rattle.phase_ops.specs.declared.phase.Source.TheVariants.{Fixed, Cell}
use Rattle.phase_ops.specs.declared.phase.Term.{Term}
use Rattle.phase_ops.specs.declared.phase.Address.{Address}
use Rattle.phase_ops.specs.declared.phase.Micro.{Micro}
use Rattle.phase_ops.specs.declared.phase.Micro.TheVariants as micro
use Rattle.phase_ops.specs.Phases.{source, source_cells, cell_value}
use Rattle.phase_ops.specs.Free.{In}
use Rattle.hlfir_meaning.specs.Environments.{Selection, complete, one, range, elements_of, Environment}
use Rattle.hlfir_meaning.specs.Selections.{extents}
use Rattle.hlfir_meaning.specs.Stage2.{done}
use Rattle.act_laws.specs.Together.{Files, Scene, Level, Follows}
use Rattle.act_laws.specs.Seats.{StandIn}
use Rattle.act_laws.specs.Fetches.{Fetched}
use Rattle.act_laws.specs.Digits.{HaveDigits}
use Rattle.act_lower.specs.declared.section.Pick.{Pick}
use Rattle.act_lower.specs.declared.section.Pick.TheVariants.{Single as single, Steps as steps}

-- ops, and what they leave: a number and terms, whose sum is that of cells in front of the element
pub record Offset : Type 0 where
  pub ops : List Micro
  pub base : ℤ
  pub terms : List Term

abbrev pub no_offset : Offset
no_offset = record { ops = []; base = pos 0; terms = [] }

-- so many times what the source has; the next op has the number k
abbrev pub scaled : ℕ → Source → ℕ → Offset
scaled m (Fixed z) k = record { ops = []; base = pos m *ℤ z; terms = [] }
scaled m (Cell c) k = record { ops = micro.Fixed (pos m) ∷ []; base = pos 0; terms = record { reg = k; step = Cell c } ∷ [] }

-- An element of the first dimension has m cells. The lower bound is taken off the first subscript, so that what is added up are distances.
abbrev pub offset : List Dim → List Pick → List ℕ → ℕ → ℕ → Offset
offset (d ∷ ds) (single f ∷ ps) regs m k =
    let x = scaled m f k in
    let o = offset ds ps regs (m * d.extent) (k + length x.ops) in
    record { ops = x.ops ++ o.ops; base = x.base -ℤ pos m *ℤ d.lower +ℤ o.base; terms = x.terms ++ o.terms }
offset (d ∷ ds) (steps f z ∷ ps) (r ∷ regs) m k =
    let x = scaled m f k in
    let o = offset ds ps regs (m * d.extent) (k + length x.ops) in
    record { ops = x.ops ++ o.ops; base = x.base -ℤ pos m *ℤ d.lower +ℤ o.base; terms = record { reg = r; step = Fixed (pos m *ℤ z) } ∷ (x.terms ++ o.terms) }
offset ds ps regs m k = no_offset

abbrev pub element_address : ℕ → Offset → Address
element_address first o = record { base = Fixed (pos first +ℤ o.base); terms = o.terms }

-- the element of the array that begins in this cell; where subscripts and strides are known, one op
abbrev pub section_code : ℕ → List Dim → List Pick → List ℕ → ℕ → Fetched
section_code first ds ps regs k =
    let o = offset ds ps regs 1 k in
    record { ops = o.ops ++ micro.Load (element_address first o) ∷ []; reg = k + length o.ops }

-- ---- what it stands for

-- The picks are those of the selection, and their cells may be read.
abbrev pub PicksAre : Scene → List Pick → Selection → Type 0
PicksAre s [] complete = Unit {0}
PicksAre s (single f ∷ ps) (one i sel) = (source s.cells f ≡ i) × ((c : ℕ) → In c (source_cells f) → In c s.may) × PicksAre s ps sel
PicksAre s (steps f z ∷ ps) (range t sel) = (source s.cells f ≡ t.l) × (z ≡ t.s) × ((c : ℕ) → In c (source_cells f) → In c s.may) × PicksAre s ps sel
PicksAre s ps sel = ⊥

-- the subscripts at a place
abbrev pub subscripts_at : Selection → ℕ → List ℤ
subscripts_at (one i sel) p = i ∷ subscripts_at sel p
subscripts_at (range t sel) p = stepped t (p % count t) ∷ subscripts_at sel (p / count t)
subscripts_at _ p = []

-- The element at each place is in bounds, and its cell holds it and may be read.
pub record CellStands (s : Scene) (first : ℕ) (a : ArrayValue) (sel : Selection) (p : ℕ) : Type 0 where
  pub at : ℕ
  pub inside : place (dims a.shape) (subscripts_at sel p) ≡ Ok at
  pub may : In (first + at) s.may
  pub holds : cell_value s.cells (first + at) ≡ value_at a.values at

abbrev pub SectionLaw : Type 0
SectionLaw =
    (s : Scene) (at : List ℕ) (first : ℕ) (a : ArrayValue) (ps : List Pick) (sel : Selection) (regs : List ℕ) → PicksAre s ps sel → ((p : ℕ) → In p at → CellStands s first a sel p)
    → (env : Environment) (n k : ℕ) (files : Files) → Level k files → HaveDigits at (λ p. p) regs (extents sel) files
    → Follows s at k files (section_code first (dims a.shape) ps regs k).ops (done at env n (elements_of a sel)) (StandIn at (section_code first (dims a.shape) ps regs k).reg)
