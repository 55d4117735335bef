-- The left sides that the code gives.
use Rattle.std.specs.Prelude.{◌≡◌, Result, Ok, Err}
use Rattle.ws_base.specs.Outcomes.{Staged}
use Rattle.ws_space.specs.declared.state.VarState.{VarState}
use Rattle.array_meaning.specs.Assign as assign
use Rattle.term_eval.specs.declared.stop.Stop.{Stop}
use Rattle.term_eval.specs.declared.left_sides.Target.{Target}
use Rattle.term_eval.specs.declared.left_sides.Target.TheVariants.{Selection, Movable}
use Rattle.term_eval.specs.Made.{Stops}
use Rattle.term_eval.specs.Limits.{IsSmallTerm}

-- A left side that may change its shape is the variable, which the code does not copy.
abbrev pub target_of : VarState → Target → assign.Target
target_of s (Selection t) = assign.selection t
target_of s Movable = assign.movable s

abbrev pub GivesTarget : VarState → Result Target Stop → Staged assign.Target → Type 0
GivesTarget s (Ok t) outcome = outcome ≡ Ok (target_of s t)
GivesTarget s (Err e) outcome = Stops e outcome

abbrev pub IsSmallTarget : Target → Type 0
IsSmallTarget (Selection t) = IsSmallTerm t
IsSmallTarget Movable = Unit {0}
