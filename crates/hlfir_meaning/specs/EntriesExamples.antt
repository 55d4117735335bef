-- Examples of the regions that a run enters, and of the count of statements.
use Rattle.std.specs.Prelude.{◌≡◌, ℕ, List, [], ◌∷◌, map, Option, Some, None, Result, Ok, Err}
use Rattle.ws_base.specs.declared.fault.Fault.{Fault}
use Rattle.ws_base.specs.declared.fault.FaultName.TheVariants.{Steps}
use Rattle.ws_space.specs.declared.state.State.{State}
use Rattle.ws_space.specs.Runs.{most_steps}
use Rattle.hlfir_ops.specs.declared.op.Op.{Op}
use Rattle.hlfir_meaning.specs.Statements.{statement}
use Rattle.hlfir_meaning.specs.Meaning.{meaning}
use Rattle.hlfir_meaning.specs.Example.{Example, text_of, constant, yield, assign, workshare}

-- the lines of the workshares that were entered
abbrev pub Enters : Example → List ℕ → Type 0
Enters x lines = map (λ e. e.line) (meaning x.main (text_of x.input)).entries ≡ lines

-- how many statements were counted when each was entered, its own among them
abbrev pub EntersAfter : Example → List ℕ → Type 0
EntersAfter x counts = map (λ e. e.state.steps) (meaning x.main (text_of x.input)).entries ≡ counts

abbrev pub steps_at : Result State Fault → Option ℕ
steps_at (Ok s) = Some s.steps
steps_at (Err e) = None

-- how many were counted in all
abbrev pub EndsAfter : Example → ℕ → Type 0
EndsAfter x count = steps_at (meaning x.main (text_of x.input)).end ≡ Some count

-- a workshare of one statement
unfoldable pub small_region : Op
small_region = workshare 3 (assign 4 (constant 1 ∷ yield 1) (yield 0) ∷ [])

-- a state in which so many statements were counted
unfoldable pub counted : ℕ → State
counted k = record { vars = []; read_to = 0; steps = k; regions = 0 }

-- where its statements pass the limit, it is not entered
abbrev pub NotEnteredPastTheLimit : Type 0
NotEnteredPastTheLimit = statement [] 1 small_region [] (counted most_steps) ≡ record { entries = []; end = Err (record { line = 3; name = Steps; element = 0 }) }

abbrev pub EnteredAtTheLimit : Type 0
EnteredAtTheLimit = map (λ e. e.state.steps) (statement [] 1 small_region [] (counted 99999999)).entries ≡ most_steps ∷ []
