-- What ends a run, and what a computation gives or leaves unless memory fails.
use Rattle.std.specs.Prelude.{◌≡◌, ⊤, ℕ, suc, List, slice_index, Result, Ok, Err}
use Rattle.ws_base.specs.declared.fault.Fault.{Fault}
use Rattle.ws_base.specs.Outcomes.{Staged}
use Rattle.ws_space.specs.Faults.{fault_line}
use Rattle.ws_space.specs.declared.state.VarState.{VarState}
use Rattle.array_meaning.specs.declared.world.World.{World}
use Rattle.array_meaning.specs.Assign as assign
use Rattle.term_eval.specs.declared.stop.Stop.{Stop}
use Rattle.term_eval.specs.declared.stop.Stop.TheVariants as stop
use Rattle.term_eval.specs.declared.left_sides.Target.{Target}
use Rattle.term_eval.specs.Targets.{target_of}
use Rattle.step_eval.specs.declared.halt.Halt.{Halt}
use Rattle.step_eval.specs.declared.halt.Halt.TheVariants.{Memory, Faulted}

abbrev pub Halts : {A : Type 0} → Halt → Result A Fault → Type 0
Halts Memory outcome = ⊤
Halts (Faulted f) outcome = outcome ≡ Err f

-- the outcome, unless memory fails
abbrev pub Yields : {A : Type 0} → Result A Halt → Result A Fault → Type 0
Yields (Ok x) outcome = outcome ≡ Ok x
Yields (Err e) outcome = Halts e outcome

-- what is left in place is the outcome, unless memory fails
abbrev pub Leaves : {A B : Type 0} → Result B Halt → Result A Fault → A → Type 0
Leaves (Ok x) outcome left = outcome ≡ Ok left
Leaves (Err e) outcome left = Halts e outcome

-- a left side, where its variable holds this
abbrev pub YieldsTarget : VarState → Result Target Halt → Result assign.Target Fault → Type 0
YieldsTarget s (Ok t) outcome = outcome ≡ Ok (target_of s t)
YieldsTarget s (Err e) outcome = Halts e outcome

-- an operation that has one value for its whole step
abbrev pub halt_at : ℕ → ℕ → Stop → Halt
halt_at line shape_line stop.Memory = Memory
halt_at line shape_line (stop.Failed t) = Faulted (record { line = fault_line line shape_line t.name; name = t.name; element = t.element })

-- operations over a list of places
abbrev pub halt_among : ℕ → List ℕ → Stop → Halt
halt_among line places stop.Memory = Memory
halt_among line places (stop.Failed t) = Faulted (record { line = line; name = t.name; element = suc (slice_index places t.element) })

-- what is left in place, and the place in the data afterwards, are the outcome, unless memory fails
abbrev pub LeavesRead : Result ℕ Halt → Result (World × ℕ) Fault → World → Type 0
LeavesRead (Ok place) outcome w = outcome ≡ Ok (w, place)
LeavesRead (Err e) outcome w = Halts e outcome
