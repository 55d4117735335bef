-- What READ takes for one item, and what it leaves.
use Rattle.std.specs.Prelude.{◌≡◌, ℕ, ◌+◌, Bool, List, Result, Ok, Err}
use Rattle.ws_base.specs.Outcomes.{Staged, ◌>>=◌}
use Rattle.ws_space.specs.Shapes.{size}
use Rattle.list_io.specs.Items.{take_values}
use Rattle.array_meaning.specs.declared.world.World.{World}
use Rattle.array_meaning.specs.declared.term.Term.{Term}
use Rattle.array_meaning.specs.Assign.{Target, selection}
use Rattle.array_meaning.specs.Program.{selection_extents, read_into}
use Rattle.term_eval.specs.declared.stop.Stop.{Stop}
use Rattle.term_eval.specs.Made.{Stops}
use Rattle.slow_eval.specs.declared.input.Taken.{Taken}

-- the selection that a left side is, unless memory fails
abbrev pub GivesSelection : Result Term Stop → Staged Target → Type 0
GivesSelection (Ok t) outcome = outcome ≡ Ok (selection t)
GivesSelection (Err e) outcome = Stops e outcome

-- what one item leaves in place, with how many values were taken then and the place after them, unless memory fails
abbrev pub LeavesItem : Result (ℕ × ℕ) Stop → Staged (World × ℕ × ℕ) → World → Type 0
LeavesItem (Ok r) outcome left = outcome ≡ Ok (left, r.0, r.1)
LeavesItem (Err e) outcome left = Stops e outcome

-- a selection takes the next values from this place on, where some were taken before
abbrev pub taken_by : List ℕ → Bool → ℕ → ℕ → Term → Staged Taken
taken_by input truth before at t = do
  vs ← take_values input truth before (size (selection_extents (selection t))) at
  s ← read_into (selection t) vs.0
  Ok (record { state = s; taken = before + size (selection_extents (selection t)); place = vs.1 })
