-- Ranges of cells.
use Rattle.std.specs.Prelude.{◌≡◌, ℕ, ◌+◌, ◌<◌, ◌≤◌, List, [], ◌∷◌, ◌++◌, slice_index_or}
use Rattle.std.specs.List.{sum_by}
use Rattle.phase_ops.specs.declared.phase.Range.{Range}
use Rattle.phase_ops.specs.declared.phase.Layout.{Layout}

abbrev pub no_cells : Range
no_cells = record { first = 0; cells = 0 }

-- the range of this number, and one of no cells where there is none
abbrev pub range_at : List Range → ℕ → Range
range_at rs n = slice_index_or rs n no_cells

-- the cell is one of the range's
abbrev pub HasCell : Range → ℕ → Type 0
HasCell r c = (r.first ≤ c) × (c < r.first + r.cells)

-- ranges of so many cells, each directly after the one before it
abbrev pub in_a_row : ℕ → List ℕ → List Range
in_a_row first [] = []
in_a_row first (n ∷ ns) = record { first = first; cells = n } ∷ in_a_row (first + n) ns

-- ---- those of a layout

abbrev pub ranges_of : Layout → List Range
ranges_of l = l.vars ++ (l.boxes ++ (l.slots ∷ (l.temps ++ l.marks ∷ [])))

-- how many cells they have together
abbrev pub cells_of : Layout → ℕ
cells_of l = sum_by (λ (r : Range). r.cells) (ranges_of l)

-- No cell stands in two ranges, the cells are numbered below how many there are, and each number fits.
pub record IsApart (l : Layout) : Type 0 where
  pub own : (i j c : ℕ) → HasCell (range_at (ranges_of l) i) c → HasCell (range_at (ranges_of l) j) c → i ≡ j
  pub there : (i c : ℕ) → HasCell (range_at (ranges_of l) i) c → c < cells_of l
  pub few : cells_of l < 4294967296
