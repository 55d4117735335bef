-- Operations on values: an op on scalars, and an elemental where an operand is an array.
use Rattle.std.specs.Prelude.{ℕ, ⊤, ◌==◌, max, if◌then◌else◌, List, [], ◌∷◌, map, Option, Some, None, ℤ}
use Rattle.ws_base.specs.declared.op.UnOp.{UnOp}
use Rattle.ws_base.specs.declared.op.UnOp.TheVariants as un
use Rattle.ws_base.specs.declared.op.BinOp.{BinOp}
use Rattle.ws_base.specs.declared.op.BinOp.TheVariants as bin
use Rattle.ws_base.specs.declared.op.CallWord.{CallWord}
use Rattle.ws_base.specs.declared.op.CallWord.TheVariants as word
use Rattle.hlfir_ops.specs.declared.kinds.Elem.{Elem}
use Rattle.hlfir_ops.specs.declared.kinds.Elem.TheVariants.{I32, I1}
use Rattle.hlfir_ops.specs.declared.kinds.ValueKind.{ValueKind}
use Rattle.hlfir_ops.specs.declared.kinds.ValueKind.TheVariants.{Scalar, Declared, Allocatable, Array}
use Rattle.hlfir_ops.specs.declared.what.ValueUnary.TheVariants as unary
use Rattle.hlfir_ops.specs.declared.what.ValueBinary.{ValueBinary}
use Rattle.hlfir_ops.specs.declared.what.ValueBinary.TheVariants as binary
use Rattle.hlfir_ops.specs.declared.what.Reduction.{Reduction}
use Rattle.hlfir_ops.specs.declared.what.Reduction.TheVariants as reduction
use Rattle.hlfir_ops.specs.declared.what.What.{What}
use Rattle.hlfir_ops.specs.declared.what.What.TheVariants as what
use Rattle.hlfir_ops.specs.declared.op.ValueId.{ValueId}
use Rattle.hlfir_ops.specs.RulesValues.{elem_of, rank_of}
use Rattle.hlfir_ops.specs.RulesForms.{result_elem, total_elem}
use Rattle.lower_values.specs.declared.operand.Operand.{Operand}
use Rattle.lower_values.specs.Lowerings.{Lowering, done, ◌>>=◌, giving, acting, giving_by}

abbrev pub constant : Elem → ℤ → Lowering Operand
constant e z = giving (what.Constant z) [] (Scalar e)

abbrev pub values_of : List Operand → List ValueId
values_of = map (λ x. x.value)

-- ---- elementwise operations

-- the greatest rank among the operands and this one
abbrev pub rank_from : ℕ → List Operand → ℕ
rank_from rank [] = rank
rank_from rank (x ∷ xs) = rank_from (max rank (rank_of x.kind)) xs

-- The op takes MERGE's mask first.
abbrev pub arranged : What → List ValueId → List ValueId
arranged what.Select (t ∷ f ∷ m ∷ []) = m ∷ t ∷ f ∷ []
arranged w vs = vs

-- the op on scalars, which gives a scalar of this type
unfoldable pub on_scalars : What → Elem → List Operand → Lowering Operand
on_scalars w e xs = giving w (arranged w (values_of xs)) (Scalar e)

-- an operand at the current position; a scalar is used directly
unfoldable pub at_position : Operand → Lowering Operand
at_position x = if rank_of x.kind == 0 then done x else giving what.Apply (x.value ∷ []) (Scalar (elem_of x.kind))

unfoldable pub at_positions : List Operand → Lowering (List Operand)
at_positions [] = done []
at_positions (x ∷ xs) = do
  y ← at_position x
  ys ← at_positions xs
  done (y ∷ ys)

-- what an elemental holds
unfoldable pub element : What → Elem → List Operand → Lowering ⊤
element w e xs = do
  ys ← at_positions xs
  z ← on_scalars w e ys
  acting what.YieldElement (z.value ∷ [])

-- the op at each position of arrays of this rank
unfoldable pub at_each : What → Elem → ℕ → List Operand → Lowering Operand
at_each w e rank xs = giving_by what.Elemental (Array e rank) (element w e xs)

-- an operation whose result has this type
unfoldable pub operation : What → Elem → List Operand → Lowering Operand
operation w e xs = if rank_from 0 xs == 0 then on_scalars w e xs else at_each w e (rank_from 0 xs) xs

-- ---- operators

abbrev pub binary_of : BinOp → ValueBinary
binary_of bin.Add = binary.Add
binary_of bin.Sub = binary.Sub
binary_of bin.Mul = binary.Mul
binary_of bin.Div = binary.Div
binary_of bin.Pow = binary.Pow
binary_of bin.Eq = binary.Eq
binary_of bin.Ne = binary.Ne
binary_of bin.Lt = binary.Lt
binary_of bin.Le = binary.Le
binary_of bin.Gt = binary.Gt
binary_of bin.Ge = binary.Ge
binary_of bin.And = binary.And
binary_of bin.Or = binary.Or
binary_of bin.Eqv = binary.Eqv
binary_of bin.Neqv = binary.Neqv

abbrev pub binary_operation : ValueBinary → Operand → Operand → Lowering Operand
binary_operation op x y = operation (what.Binary op) (result_elem op) (x ∷ y ∷ [])

abbrev pub as_expr : Operand → Elem → ℕ → Lowering Operand
as_expr x e rank = giving what.AsExpr (x.value ∷ []) (Array e rank)

-- the value of a whole array, in parentheses or after a plus; nothing is added to any other operand
abbrev pub value_of_whole : ValueKind → Operand → Lowering Operand
value_of_whole (Declared e shape) x = as_expr x e shape.rank
value_of_whole (Allocatable e rank) x = as_expr x e rank
value_of_whole _ x = done x

unfoldable pub in_parentheses : Operand → Lowering Operand
in_parentheses x = value_of_whole x.kind x

abbrev pub unary_operation : UnOp → Operand → Lowering Operand
unary_operation un.Minus x = operation (what.Unary unary.Neg) I32 (x ∷ [])
unary_operation un.Plus x = in_parentheses x
unary_operation un.Not x = operation (what.Unary unary.Not) I1 (x ∷ [])

-- ---- calls and constructors

-- MIN and MAX, which nest to the left
abbrev pub nesting_of : CallWord → Option ValueBinary
nesting_of word.Min = Some binary.Min
nesting_of word.Max = Some binary.Max
nesting_of word.Abs = None
nesting_of word.Mod = None
nesting_of word.Modulo = None
nesting_of word.Merge = None
nesting_of word.Sum = None
nesting_of word.Product = None
nesting_of word.Minval = None
nesting_of word.Maxval = None
nesting_of word.Count = None
nesting_of word.Any = None
nesting_of word.All = None
nesting_of word.Size = None
nesting_of word.Lbound = None
nesting_of word.Ubound = None
nesting_of word.Allocated = None

abbrev pub joined : ValueBinary → Option Operand → Operand → Lowering Operand
joined op None y = done y
joined op (Some x) y = binary_operation op x y

abbrev pub reduction_of : CallWord → Option Reduction
reduction_of word.Sum = Some reduction.Sum
reduction_of word.Product = Some reduction.Product
reduction_of word.Minval = Some reduction.Minval
reduction_of word.Maxval = Some reduction.Maxval
reduction_of word.Count = Some reduction.Count
reduction_of word.Any = Some reduction.Any
reduction_of word.All = Some reduction.All
reduction_of word.Abs = None
reduction_of word.Mod = None
reduction_of word.Modulo = None
reduction_of word.Min = None
reduction_of word.Max = None
reduction_of word.Merge = None
reduction_of word.Size = None
reduction_of word.Lbound = None
reduction_of word.Ubound = None
reduction_of word.Allocated = None

-- the op of any other call that is no inquiry: MERGE is a select
abbrev pub what_of : CallWord → What
what_of word.Abs = what.Unary unary.Abs
what_of word.Mod = what.Binary binary.Mod
what_of word.Modulo = what.Binary binary.Modulo
what_of word.Min = what.Select
what_of word.Max = what.Select
what_of word.Merge = what.Select
what_of word.Sum = what.Select
what_of word.Product = what.Select
what_of word.Minval = what.Select
what_of word.Maxval = what.Select
what_of word.Count = what.Select
what_of word.Any = what.Select
what_of word.All = what.Select
what_of word.Size = what.Select
what_of word.Lbound = what.Select
what_of word.Ubound = what.Select
what_of word.Allocated = what.Select

-- the type of the first of them
abbrev pub first_elem : List Operand → Elem
first_elem [] = I32
first_elem (x ∷ xs) = elem_of x.kind

abbrev pub call_elem : CallWord → List Operand → Elem
call_elem word.Merge xs = first_elem xs
call_elem word.Abs xs = I32
call_elem word.Mod xs = I32
call_elem word.Modulo xs = I32
call_elem word.Min xs = I32
call_elem word.Max xs = I32
call_elem word.Sum xs = I32
call_elem word.Product xs = I32
call_elem word.Minval xs = I32
call_elem word.Maxval xs = I32
call_elem word.Count xs = I32
call_elem word.Any xs = I32
call_elem word.All xs = I32
call_elem word.Size xs = I32
call_elem word.Lbound xs = I32
call_elem word.Ubound xs = I32
call_elem word.Allocated xs = I32

abbrev pub total : Reduction → List Operand → Lowering Operand
total r xs = giving (what.Reduce r) (values_of xs) (Scalar (total_elem r))

abbrev pub total_or : Option Reduction → List Operand → Lowering Operand → Lowering Operand
total_or (Some r) xs p = total r xs
total_or None xs p = p

-- a call of all its arguments at once
unfoldable pub call_on : CallWord → List Operand → Lowering Operand
call_on w xs = total_or (reduction_of w) xs (operation (what_of w) (call_elem w xs) xs)

unfoldable pub vector : List Operand → Lowering Operand
vector xs = giving what.Vector (values_of xs) (Array (first_elem xs) 1)
