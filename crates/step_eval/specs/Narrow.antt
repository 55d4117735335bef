-- Shapes of at most three dimensions.
use Rattle.std.specs.Prelude.{◌≤◌, ℕ, List, length}
use Rattle.std.specs.List.{All}
use Rattle.ws_space.specs.Shapes.{Extents}
use Rattle.array_meaning.specs.declared.term.Term.{Term}
use Rattle.array_meaning.specs.Stage2.{operands}
use Rattle.array_meaning.specs.Assign.{Target, selection, movable}
use Rattle.term_eval.specs.declared.left_sides.Target as code
use Rattle.term_eval.specs.declared.left_sides.Target.TheVariants.{Selection, Movable}
-- the dimensions that a variable may have
pub use Rattle.small_laws.specs.Small.{AreDims}

abbrev pub IsNarrow : Extents → Type 0
IsNarrow e = length e ≤ 3

-- each array operand has at most three dimensions
abbrev pub IsNarrowTerm : Term → Type 0
IsNarrowTerm t = All IsNarrow (operands t)

-- a left side that selects at most three dimensions
abbrev pub IsNarrowSpec : Target → Type 0
IsNarrowSpec (selection t) = IsNarrowTerm t
IsNarrowSpec (movable s) = Unit {0}

abbrev pub IsNarrowTarget : code.Target → Type 0
IsNarrowTarget (Selection t) = IsNarrowTerm t
IsNarrowTarget Movable = Unit {0}
