-- What an assignment, READ or ALLOCATE leaves in a variable.
use Rattle.std.specs.Prelude.{ℕ, suc, ◌==◌, Bool, false, if◌then◌else◌, List, [], ◌∷◌, map, replicate, slice_index, Option, Some, None, Result, Ok, Err, ℤ, pos, bytes_eq}
use Rattle.ws_base.specs.declared.fault.FaultName.TheVariants.{ManyOne, Allocated as Allocated', Unallocated as Unallocated'}
use Rattle.ws_base.specs.declared.fault.Fault.{Fault}
use Rattle.ws_base.specs.Outcomes.{Staged, trouble}
use Rattle.ws_space.specs.declared.shape.Dim.{Dim}
use Rattle.ws_space.specs.declared.state.ArrayValue.{ArrayValue}
use Rattle.ws_space.specs.declared.state.VarState.{VarState}
use Rattle.ws_space.specs.declared.state.VarState.TheVariants as state
use Rattle.ws_space.specs.declared.state.Var.{Var}
use Rattle.ws_space.specs.Shapes.{Extents, dims, extents_of, size, same_extents}
use Rattle.ws_space.specs.Values.{Name, stored, first_repeat, kept}
use Rattle.ws_space.specs.Sections.{limited}

-- a variable's type, which is LOGICAL where this is true
abbrev pub is_logical : List Var → Name → Bool
is_logical [] x = false
is_logical (v ∷ vs) x = if bytes_eq v.name x then v.truth else is_logical vs x

-- ---- replacement at once

abbrev pub filled : ArrayValue → List ℕ → List ℤ → VarState
filled a ts xs = kept (dims a.shape) (stored a.values ts xs)

-- unless an earlier active place has the same target
abbrev pub unless_repeated : {A : Type 0} → ℕ → List ℕ → Option ℕ → A → Result A Fault
unless_repeated line places None x = Ok x
unless_repeated line places (Some k) x = Err (record { line = line; name = ManyOne; element = suc (slice_index places k) })

abbrev pub replaced : ℕ → List ℕ → ArrayValue → List ℕ → List ℤ → Result VarState Fault
replaced line places a ts xs = unless_repeated line places (first_repeat ts) (filled a ts xs)

-- ---- a left side whose shape may change

-- the lower bounds that a whole array hands on: 1 in a dimension of extent 0
abbrev pub handed_on : List Dim → List Dim
handed_on = map (λ d. if d.extent == 0 then record { lower = pos 1; extent = 0 } else d)

abbrev pub from_one : Extents → List Dim
from_one = map (λ n. record { lower = pos 1; extent = n })

abbrev pub has_extents : VarState → Extents → Bool
has_extents (state.Array a) e = same_extents (extents_of (dims a.shape)) e
has_extents s e = false

abbrev pub dims_of : VarState → List Dim
dims_of (state.Array a) = dims a.shape
dims_of s = []

-- a variable of the same shape keeps its bounds, and any other takes the new ones
abbrev pub moved : List Dim → VarState → Extents → List ℤ → VarState
moved new s e xs = kept (if has_extents s e then dims_of s else new) xs

-- The shape in which such a variable takes a value of shape e. A value without array operands takes the variable's own.
abbrev pub moved_shape : List Extents → VarState → Extents → Staged Extents
moved_shape [] (state.Unallocated r) e = trouble Unallocated'
moved_shape [] (state.Array a) e = Ok (extents_of (dims a.shape))
moved_shape right s e = Ok e

-- ---- ALLOCATE and DEALLOCATE

abbrev pub zeros : List Dim → VarState
zeros ds = kept ds (replicate (size (extents_of ds)) (pos 0))

abbrev pub allocated_with : VarState → List Dim → Staged VarState
allocated_with (state.Unallocated r) ds = limited (extents_of ds) (zeros ds)
allocated_with s ds = trouble Allocated'

abbrev pub freed : VarState → Staged VarState
freed (state.Array a) = Ok (state.Unallocated a.shape.rank)
freed s = trouble Unallocated'
