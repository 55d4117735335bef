-- A machine as the state and the source of the meaning, and what a run leaves of it.
use Rattle.std.specs.Prelude.{◌≡◌, ◌≤◌, ℕ, List, [], ◌∷◌, length, Result, Ok, ℤ}
use Rattle.ws_base.specs.declared.fault.Fault.{Fault}
use Rattle.ws_base.specs.Outcomes.{◌>>=◌}
use Rattle.ws_space.specs.declared.state.State.{State}
use Rattle.ws_space.specs.Values.{Name}
use Rattle.ws_space.specs.Runs.{Run, run_of, and_then, ticked, assigned_scalar}
use Rattle.ws_tree.specs.declared.stmt.Stmt.{Stmt}
use Rattle.array_meaning.specs.declared.world.World.{World}
use Rattle.array_meaning.specs.declared.world.Source.{Source}
use Rattle.array_meaning.specs.Program.{simple, statement_list}
use Rattle.term_eval.specs.Limits.{IsWorld}
use Rattle.slow_eval.specs.declared.machine.Machine.{Machine}

abbrev pub state : Machine → State
state m = record { vars = m.world.vars; read_to = m.read_to; steps = m.steps; regions = m.regions }

abbrev pub source : List ℕ → Machine → Source
source input m = record { constants = m.world.constants; allocatables = m.world.allocatables; input = input }

-- its numbers are within the limits, and it has read no more than there is
pub record IsReady (input : List ℕ) (m : Machine) : Type 0 where
  pub world : IsWorld m.world
  pub within : m.read_to ≤ length input

-- what a run makes of a ready machine: one that is ready to go on from the same source
pub record GoesOn (input : List ℕ) (old new : Machine) : Type 0 where
  pub ready : IsReady input new
  pub source : source input new ≡ source input old

-- only the counts differ
pub record SameButCounts (old new : Machine) : Type 0 where
  pub world : new.world ≡ old.world
  pub read_to : new.read_to ≡ old.read_to

-- the statements of a region
abbrev pub simple_list : World → List Stmt → Result World Fault
simple_list w [] = Ok w
simple_list w (t ∷ ts) = do
  v ← simple w t.line t.body
  simple_list v ts

-- one iteration of a DO, while whose block its variable has this value
abbrev pub iteration_at : Source → ℕ → Name → ℤ → List Stmt → State → Run
iteration_at g line x value block s = and_then (run_of (ticked line 1 s)) (λ r. statement_list g block (assigned_scalar r x value))
