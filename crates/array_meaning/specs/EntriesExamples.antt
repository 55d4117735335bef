-- Examples of the regions that a run enters.
use Rattle.std.specs.Prelude.{◌≡◌, ℕ, List, [], ◌∷◌, map, codes, Err}
use Rattle.ws_base.specs.declared.fault.FaultName.TheVariants.{Steps}
use Rattle.ws_space.specs.declared.state.State.{State}
use Rattle.ws_space.specs.Runs.{most_steps}
use Rattle.ws_tree.specs.declared.expr.Expr.TheVariants.{Number, Named}
use Rattle.ws_tree.specs.declared.stmt.Body.{Body}
use Rattle.ws_tree.specs.declared.stmt.Body.TheVariants.{Assign, Shared}
use Rattle.array_meaning.specs.declared.world.Source.{Source}
use Rattle.array_meaning.specs.Program.{run, statement}
use Rattle.array_meaning.specs.Example.{Example, text_of, line}

-- the lines of the directives of the regions that were entered
abbrev pub Enters : Example → List ℕ → Type 0
Enters x lines = map (λ e. e.line) (run x.tree (text_of x.input)).entries ≡ lines

-- how many statements were counted when each was entered, its own among them
abbrev pub EntersAfter : Example → List ℕ → Type 0
EntersAfter x counts = map (λ e. e.state.steps) (run x.tree (text_of x.input)).entries ≡ counts

unfoldable pub nothing_declared : Source
nothing_declared = record { constants = []; allocatables = []; input = [] }

-- a region of one statement
unfoldable pub small_region : Body
small_region = Shared (line 4 (Assign (Named (codes "n")) (Number 1)) ∷ [])

-- a state in which so many statements were counted
unfoldable pub counted : ℕ → State
counted k = record { vars = []; read_to = 0; steps = k; regions = 0 }

-- where its statements pass the limit, the region is not entered
abbrev pub NotEnteredPastTheLimit : Type 0
NotEnteredPastTheLimit = statement nothing_declared 3 small_region (counted most_steps) ≡ record { entries = []; end = Err (record { line = 3; name = Steps; element = 0 }) }

abbrev pub EnteredAtTheLimit : Type 0
EnteredAtTheLimit = map (λ e. e.state.steps) (statement nothing_declared 3 small_region (counted 99999999)).entries ≡ most_steps ∷ []
