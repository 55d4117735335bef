-- The assignment of a step: conformance, stage 2 of both sides, and the replacement.
use Rattle.std.specs.Prelude.{ℕ, Bool, true, false, List, ◌++◌, Option, Some, None, Result, Ok}
use Rattle.ws_base.specs.declared.fault.FaultName.TheVariants.{Unallocated as Unallocated'}
use Rattle.ws_base.specs.declared.fault.Fault.{Fault}
use Rattle.ws_base.specs.Outcomes.{Staged, trouble, ◌>>=◌}
use Rattle.ws_space.specs.declared.shape.Dim.{Dim}
use Rattle.ws_space.specs.declared.state.ArrayValue.{ArrayValue}
use Rattle.ws_space.specs.declared.state.VarState.{VarState}
use Rattle.ws_space.specs.declared.state.VarState.TheVariants as state
use Rattle.ws_space.specs.declared.state.Var.{Var}
use Rattle.ws_space.specs.Shapes.{Extents, dims, extents_of, agreed}
use Rattle.ws_space.specs.Values.{with_state, held}
use Rattle.ws_space.specs.Faults.{at_places}
use Rattle.ws_space.specs.Replace.{replaced, handed_on, from_one, moved, moved_shape}
use Rattle.hlfir_meaning.specs.Environments.{Selection, Value, variable, part, Yielded, result, variable_in, state_in}
use Rattle.hlfir_meaning.specs.Selections.{array_operand, extents}
use Rattle.hlfir_meaning.specs.Stage2.{values, targets}

-- ---- left sides

-- all that a variable holds, which counts as an array; an element or a section; or an allocatable whose shape may change
pub data Target : Type 0 where
  all_of : ArrayValue → Target
  selected : ArrayValue → Selection → Target
  movable : VarState → Target

abbrev pub held_by : Option ArrayValue → Staged ArrayValue
held_by None = trouble Unallocated'
held_by (Some a) = Ok a

abbrev pub target : Bool → Value → Staged Target
target true x = Ok (movable (state_in x))
target false (part v a s) = Ok (selected a s)
target false x = do
  a ← held_by (held (state_in x))
  Ok (all_of a)

-- ---- conformance

-- the one shape of all array operands, the left side included, but for one that may change its shape
abbrev pub step_shape : List Extents → Target → Staged Extents
step_shape others (all_of a) = agreed (others ++ array_operand (extents_of (dims a.shape)))
step_shape others (selected a s) = agreed (others ++ array_operand (extents s))
step_shape others (movable s) = agreed others >>= moved_shape others s

-- ---- the replacement

abbrev pub bounds_from : VarState → Extents → List Dim
bounds_from (state.Array a) e = handed_on (dims a.shape)
bounds_from s e = from_one e

-- the bounds of a new left side: those of a whole array on the right
abbrev pub new_bounds : Value → Extents → List Dim
new_bounds (variable v) e = bounds_from v.state e
new_bounds x e = from_one e

-- stage 2 of both sides at the active places, and then the new state of the variable
abbrev pub carried_out : ℕ → Yielded → Extents → List ℕ → Target → Result VarState Fault
carried_out line r e places (all_of a) = do
  xs ← at_places line places (values r places)
  replaced line places a places xs
carried_out line r e places (selected a s) = do
  xs ← at_places line places (values r places)
  ts ← at_places line places (targets a s places)
  replaced line places a ts xs
carried_out line r e places (movable s) = do
  xs ← at_places line places (values r places)
  Ok (moved (new_bounds (result r) e) s e xs)

-- the variable that a value refers to holds this now
abbrev pub with_target : List Var → Value → VarState → List Var
with_target vars x s = with_state vars (variable_in x).name s
