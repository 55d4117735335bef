-- One step: the right side and the left side, and then the replacement.
use Rattle.std.specs.Prelude.{ℕ, Bool, true, false, not, ◌&&◌, ◌||◌, List, [], ◌∷◌, ◌++◌, Option, Some, None, Result, Ok, ℤ, pos, bytes_eq}
use Rattle.ws_base.specs.declared.fault.FaultName.TheVariants.{Unallocated as Unallocated'}
use Rattle.ws_base.specs.declared.fault.Fault.{Fault}
use Rattle.ws_base.specs.Outcomes.{Staged, trouble, ◌>>=◌}
use Rattle.ws_space.specs.declared.shape.Dim.{Dim}
use Rattle.ws_space.specs.declared.state.ArrayValue.{ArrayValue}
use Rattle.ws_space.specs.declared.state.VarState.{VarState}
use Rattle.ws_space.specs.declared.state.VarState.TheVariants as state
use Rattle.ws_space.specs.declared.state.Var.{Var}
use Rattle.ws_space.specs.Shapes.{Extents, dims, all_places, agreed}
use Rattle.ws_space.specs.Values.{Name, state_of, with_state, held}
use Rattle.ws_space.specs.Faults.{at_line, at_places}
use Rattle.ws_space.specs.Replace.{replaced, handed_on, from_one, moved, moved_shape}
use Rattle.ws_tree.specs.declared.expr.Expr.{Expr}
use Rattle.ws_tree.specs.declared.expr.Expr.TheVariants.{Named, Part'}
use Rattle.array_meaning.specs.declared.world.World.{World}
use Rattle.array_meaning.specs.declared.term.Term.{Term}
use Rattle.array_meaning.specs.declared.term.Term.TheVariants.{Section}
use Rattle.array_meaning.specs.Stage2.{operands, values, targets, array_of}
use Rattle.array_meaning.specs.Stage1.{walk, picks, allocated, selected, whole_array}

-- ---- left sides

-- A whole allocatable outside WHERE may change its shape. Any other left side is a selection of what the variable holds.
pub data Target : Type 0 where
  selection : Term → Target
  movable : VarState → Target

abbrev pub is_name_in : List Name → Name → Bool
is_name_in [] x = false
is_name_in (y ∷ ys) x = bytes_eq y x || is_name_in ys x

abbrev pub held_by : Option ArrayValue → Staged ArrayValue
held_by None = trouble Unallocated'
held_by (Some a) = Ok a

abbrev pub whole_target : Bool → VarState → Staged Target
whole_target true s = Ok (movable s)
whole_target false s = do
  a ← held_by (held s)
  Ok (selection (whole_array a))

abbrev pub target_name : Expr → Name
target_name (Named x) = x
target_name (Part' x _ subs) = x
target_name e = []

-- a left side that may change its shape
abbrev pub may_move : World → Expr → Bool
may_move w (Named x) = is_name_in w.allocatables x
may_move w e = false

-- in_where: no shape changes there. In an accepted program a left side is a name, with subscripts or without.
abbrev pub target : Bool → World → Expr → Staged Target
target in_where w (Named x) = whole_target (not in_where && is_name_in w.allocatables x) (state_of w.vars x)
target in_where w (Part' x _ subs) = do
  a ← allocated (state_of w.vars x)
  ps ← picks w (dims a.shape) subs
  qs ← selected a ps
  Ok (selection (Section a qs))
target in_where w e = trouble Unallocated'

-- ---- conformance

-- the one shape of all array operands, the left side included, but for one that may change its shape
abbrev pub step_shape : List Extents → Target → Staged Extents
step_shape others (selection t) = agreed (others ++ operands t)
step_shape others (movable s) = agreed others >>= moved_shape others s

-- ---- the replacement

abbrev pub bounds_from : VarState → Extents → List Dim
bounds_from (state.Array a) e = handed_on (dims a.shape)
bounds_from s e = from_one e

-- the bounds of a new left side: those of a whole array on the right
abbrev pub new_bounds : World → Expr → Extents → List Dim
new_bounds w (Named y) e = bounds_from (state_of w.vars y) e
new_bounds w right e = from_one e

abbrev pub replaced_in : ℕ → List ℕ → Option ArrayValue → List ℕ → List ℤ → Result VarState Fault
replaced_in line places None ts xs = Ok (state.Scalar (pos 0))
replaced_in line places (Some a) ts xs = replaced line places a ts xs

-- stage 2 of both sides at the active places, and then the new state of the variable
abbrev pub carried_out : World → ℕ → Expr → Term → Extents → List ℕ → Target → Result VarState Fault
carried_out w line right r e places (movable s) = do
  xs ← at_places line places (values r places)
  Ok (moved (new_bounds w right e) s e xs)
carried_out w line right r e places (selection t) = do
  xs ← at_places line places (values r places)
  ts ← at_places line places (targets t places)
  replaced_in line places (array_of t) ts xs

abbrev pub with_vars : World → List Var → World
with_vars w vars = record w { vars = vars }

abbrev pub with_target : World → Expr → VarState → World
with_target w left s = with_vars w (with_state w.vars (target_name left) s)

-- an assignment outside WHERE and FORALL
abbrev pub assign : World → ℕ → Expr → Expr → Result World Fault
assign w line left right = do
  r ← at_line line (walk w right)
  t ← at_line line (target false w left)
  e ← at_line line (step_shape (operands r) t)
  s ← carried_out w line right r e (all_places e) t
  Ok (with_target w left s)
