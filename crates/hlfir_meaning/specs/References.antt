-- References to variables: the array behind one, and what is asked about it.
use Rattle.std.specs.Prelude.{Bool, true, false, List, [], ◌∷◌, None, Ok, ℤ, pos}
use Rattle.ws_base.specs.declared.fault.FaultName.TheVariants.{Unallocated as Unallocated'}
use Rattle.ws_base.specs.Numbers.{Exact, truth, default_half, exact}
use Rattle.ws_base.specs.Outcomes.{Staged, trouble, scalar_of, ◌>>=◌}
use Rattle.ws_space.specs.declared.shape.Dim.{Dim}
use Rattle.ws_space.specs.declared.state.ArrayValue.{ArrayValue}
use Rattle.ws_space.specs.declared.state.VarState.{VarState}
use Rattle.ws_space.specs.declared.state.VarState.TheVariants as state
use Rattle.ws_space.specs.Shapes.{Extents, dims, extents_of, upper}
use Rattle.ws_space.specs.Inquiries.{dim_at, size_value, lbound_value, ubound_value, extent_value}
use Rattle.ws_space.specs.Replace.{dims_of}
use Rattle.hlfir_ops.specs.declared.what.BoundWord.{BoundWord}
use Rattle.hlfir_ops.specs.declared.what.BoundWord.TheVariants.{Lower, Upper, Lbound, Ubound, Extent}
use Rattle.hlfir_ops.specs.declared.what.What.{What}
use Rattle.hlfir_ops.specs.declared.what.What.TheVariants as what

-- ---- what a variable holds

abbrev pub allocated : VarState → Staged ArrayValue
allocated (state.Array a) = Ok a
allocated _ = trouble Unallocated'

abbrev pub held_extents : VarState → Extents
held_extents s = extents_of (dims_of s)

abbrev pub held_scalar : VarState → ℤ
held_scalar (state.Scalar z) = z
held_scalar _ = pos 0

-- in array element order
abbrev pub held_values : VarState → List ℤ
held_values (state.Scalar z) = z ∷ []
held_values (state.Array a) = a.values
held_values (state.Unallocated r) = []

-- ---- inquiries

abbrev pub is_allocated : VarState → Bool
is_allocated (state.Unallocated r) = false
is_allocated _ = true

-- a bound as the array keeps it, or as LBOUND and UBOUND give it; or the extent
abbrev pub bound_value : BoundWord → Dim → Exact
bound_value Lower d = Ok d.lower
bound_value Upper d = exact default_half (upper d)
bound_value Lbound d = lbound_value d
bound_value Ubound d = ubound_value d
bound_value Extent d = extent_value d

-- what an inquiry gives; no other op is one
abbrev pub inquired : What → VarState → Staged ℤ
inquired (what.Bound word dim) s = do
  a ← allocated s
  scalar_of (bound_value word (dim_at (dims a.shape) dim))
inquired what.Size s = do
  a ← allocated s
  scalar_of (size_value (dims a.shape) None)
inquired what.Allocated s = Ok (truth (is_allocated s))
inquired (what.Declare name) s = Ok (pos 0)
inquired (what.Assign realloc) s = Ok (pos 0)
inquired what.Masked s = Ok (pos 0)
inquired what.Elsewhere s = Ok (pos 0)
inquired (what.Forall names) s = Ok (pos 0)
inquired what.ForallMask s = Ok (pos 0)
inquired what.Workshare s = Ok (pos 0)
inquired what.DoLoop s = Ok (pos 0)
inquired (what.Allocmem also) s = Ok (pos 0)
inquired (what.Freemem also) s = Ok (pos 0)
inquired (what.Read also) s = Ok (pos 0)
inquired what.Yield s = Ok (pos 0)
inquired what.YieldElement s = Ok (pos 0)
inquired (what.Constant c) s = Ok (pos 0)
inquired (what.Unary op) s = Ok (pos 0)
inquired (what.Binary op) s = Ok (pos 0)
inquired what.Select s = Ok (pos 0)
inquired what.Load s = Ok (pos 0)
inquired what.Boxed s = Ok (pos 0)
inquired (what.Designate subs) s = Ok (pos 0)
inquired what.Vector s = Ok (pos 0)
inquired what.AsExpr s = Ok (pos 0)
inquired what.Elemental s = Ok (pos 0)
inquired what.Apply s = Ok (pos 0)
inquired (what.Reduce r) s = Ok (pos 0)
