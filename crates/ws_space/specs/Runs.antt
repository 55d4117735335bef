-- Runs of statements: the regions that they enter, and the state or the fault that they end with.
use Rattle.std.specs.Prelude.{ℕ, zero, suc, ◌+◌, nat_lt, if◌then◌else◌, List, [], ◌∷◌, ◌++◌, Result, Ok, Err, ℤ}
use Rattle.ws_base.specs.declared.fault.FaultName.TheVariants.{Steps}
use Rattle.ws_base.specs.declared.fault.Fault.{Fault}
use Rattle.ws_base.specs.Numbers.{default_half, exact}
use Rattle.ws_base.specs.Outcomes.{Staged, scalar_of, ◌>>=◌}
use Rattle.ws_space.specs.declared.shape.Triplet.{Triplet}
use Rattle.ws_space.specs.declared.state.VarState.TheVariants as state
use Rattle.ws_space.specs.declared.state.State.{State}
use Rattle.ws_space.specs.declared.state.Ended.{Ended}
use Rattle.ws_space.specs.declared.state.Ended.TheVariants.{Done, Faulted}
use Rattle.ws_space.specs.Shapes.{count}
use Rattle.ws_space.specs.Values.{Name, with_state}
use Rattle.ws_space.specs.Faults.{at_line}
use Rattle.ws_space.specs.Subscripts.{stepped}

-- one execution of a region: the line of its directive, and the state as it is entered
pub record Entry : Type 0 where
  pub line : ℕ
  pub state : State

-- the regions that were entered, in order, and the end or the fault
pub record Run : Type 0 where
  pub entries : List Entry
  pub end : Result State Fault

abbrev pub run_of : Result State Fault → Run
run_of r = record { entries = []; end = r }

abbrev pub continued : List Entry → Run → Run
continued es r = record { entries = es ++ r.entries; end = r.end }

abbrev pub after_state : List Entry → Result State Fault → (State → Run) → Run
after_state es (Ok s) f = continued es (f s)
after_state es (Err e) f = record { entries = es; end = Err e }

-- one after another
abbrev pub and_then : Run → (State → Run) → Run
and_then r f = after_state r.entries r.end f

abbrev pub ended : Result State Fault → Ended
ended (Ok s) = Done s
ended (Err f) = Faulted f

-- ---- regions

abbrev pub entered : State → State
entered s = record s { regions = suc s.regions }

-- a region whose statements turn the state as it is entered into this
abbrev pub region_run : ℕ → State → (State → Result State Fault) → Run
region_run line s block = record { entries = record { line = line; state = entered s } ∷ []; end = block (entered s) }

-- ---- the count of statements

abbrev pub most_steps : ℕ
most_steps = 100000000

-- n more statements
abbrev pub ticked : ℕ → ℕ → State → Result State Fault
ticked line n s = if nat_lt most_steps (s.steps + n) then Err (record { line = line; name = Steps; element = 0 }) else Ok (record s { steps = s.steps + n })

-- ---- DO

abbrev pub assigned_scalar : State → Name → ℤ → State
assigned_scalar s x v = record s { vars = with_state s.vars x (state.Scalar v) }

-- the last n iterations, of which the first is number k from 0
abbrev pub iterations : (ℕ → State → Run) → ℕ → ℕ → State → Run
iterations once zero k s = run_of (Ok s)
iterations once (suc n) k s = and_then (once k s) (λ r. iterations once n (suc k) r)

-- one iteration: it counts, and its variable has its value while the block runs
unfoldable pub iteration : ℕ → Name → Triplet → (State → Run) → ℕ → State → Run
iteration line x t block k s = and_then (run_of (ticked line 1 s)) (λ r. block (assigned_scalar r x (stepped t k)))

-- the variable afterwards, also where there was no iteration
abbrev pub loop_end : Name → Triplet → State → Staged State
loop_end x t s = do
  v ← scalar_of (exact default_half (stepped t (count t)))
  Ok (assigned_scalar s x v)

abbrev pub looped : ℕ → Name → Triplet → (State → Run) → State → Run
looped line x t block s = and_then (iterations (iteration line x t block) (count t) 0 s) (λ r. run_of (at_line line (loop_end x t r)))

abbrev pub loop_of : ℕ → Name → Result Triplet Fault → (State → Run) → State → Run
loop_of line x (Ok t) block s = looped line x t block s
loop_of line x (Err e) block s = run_of (Err e)
