-- An op applied at all active places, as one map. The places are those of a shape, or the combinations of a FORALL.
use Rattle.std.specs.Prelude.{ℕ, List, [], ◌∷◌, map, Result, Ok, Err, ℤ}
use Rattle.ws_base.specs.declared.fault.FaultName.{FaultName}
use Rattle.ws_base.specs.declared.fault.FaultName.TheVariants.{Unallocated as Unallocated'}
use Rattle.ws_base.specs.Outcomes.{Staged, each, rows, ◌>>=◌}
use Rattle.ws_space.specs.declared.state.VarState.{VarState}
use Rattle.ws_space.specs.declared.state.VarState.TheVariants as state
use Rattle.ws_space.specs.Shapes.{dims, place}
use Rattle.ws_space.specs.Values.{value_at}
use Rattle.ws_space.specs.Maps.{everywhere_same}
use Rattle.hlfir_ops.specs.declared.what.What.{What}
use Rattle.hlfir_ops.specs.declared.what.What.TheVariants as what
use Rattle.hlfir_ops.specs.declared.op.ValueId.{ValueId}
use Rattle.hlfir_ops.specs.declared.op.Op.{Op, out-Op}
use Rattle.hlfir_meaning.specs.Environments.{Value, variable, scalar, array, column, placed, Environment, standing, Yielded, operand, variable_in, state_in}
use Rattle.hlfir_meaning.specs.Order.{in_order}
use Rattle.hlfir_meaning.specs.Operators.{unary_operation, binary_operation, select_operation, mask_last, operation_map}
use Rattle.hlfir_meaning.specs.References.{held_scalar, held_values, inquired}

-- ---- values at the active places

-- An array has its elements there, and a scalar is the same everywhere.
abbrev pub column_at : List ℕ → Value → List ℤ
column_at at (variable v) = map (value_at (held_values v.state)) at
column_at at (scalar z) = everywhere_same z at
column_at at (array e xs) = map (value_at xs) at
column_at at (column xs) = xs
column_at at _ = []

abbrev pub columns_of : List ℕ → Environment → List ValueId → List (List ℤ)
columns_of at env = map (λ v. column_at at (standing env v))

-- ---- single ops

-- of a scalar variable, or of an element at each combination
abbrev pub loaded_at : List ℕ → Value → List ℤ
loaded_at at (placed v ps) = map (value_at (held_values v.state)) ps
loaded_at at x = everywhere_same (held_scalar (state_in x)) at

-- the place of an element, where its array is allocated and it is in bounds
abbrev pub place_in : VarState → List ℤ → Result ℕ FaultName
place_in (state.Array a) is = place (dims a.shape) is
place_in s is = Err Unallocated'

abbrev pub without_element : {A : Type 0} → Staged A → Result A FaultName
without_element (Ok x) = Ok x
without_element (Err t) = Err t.name

abbrev pub as_column : Staged (List ℤ) → Staged Value
as_column xs = xs >>= (λ ys. Ok (column ys))

-- an element of this array at each place
abbrev pub designated : List ℕ → Value → List (List ℤ) → Staged Value
designated at r subscripts = do
  ps ← each (place_in (state_in r)) (rows at subscripts)
  Ok (placed (variable_in r) ps)

abbrev pub rest_of : List ValueId → List ValueId
rest_of [] = []
rest_of (v ∷ vs) = vs

-- A box alone is no operation here: what uses it faults where the array is not allocated.
abbrev pub over : List ℕ → Environment → What → List ValueId → Staged Value
over at env (what.Constant c) os = Ok (column (everywhere_same c at))
over at env (what.Unary o) os = as_column (operation_map (unary_operation o) at (columns_of at env os))
over at env (what.Binary o) os = as_column (operation_map (binary_operation o) at (columns_of at env os))
over at env what.Select os = as_column (operation_map select_operation at (mask_last (columns_of at env os)))
over at env what.Load os = Ok (column (loaded_at at (operand env os)))
over at env what.Boxed os = Ok (operand env os)
over at env (what.Designate subs) os = designated at (operand env os) (columns_of at env (rest_of os))
over at env what.Apply os = Ok (column (column_at at (operand env os)))
over at env w os = as_column (each (λ _. without_element (inquired w (state_in (operand env os)))) at)

-- the ops of a region at these places; their values are numbered from this number on
abbrev pub over_ops : List ℕ → ℕ → Environment → List Op → Staged Yielded
over_ops at = in_order (λ n env op. over at env (out-Op op).what (out-Op op).operands)
