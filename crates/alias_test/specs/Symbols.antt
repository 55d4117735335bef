-- The trees of scalar values, in postfix order.
use Rattle.std.specs.Prelude.{ℕ, Bool, true, false, nat_lt, if◌then◌else◌, List, [], ◌∷◌, ◌++◌, Option, Some, None, ℤ, slice_get, slice_index_or}
use Rattle.std.specs.List.{list_all, flat_map}
use Rattle.ws_base.specs.Numbers.{is_true}
use Rattle.ws_base.specs.declared.op.UnOp.TheVariants.{Minus, Not}
use Rattle.ws_base.specs.declared.op.BinOp.TheVariants as op
use Rattle.hlfir_ops.specs.declared.kinds.Elem.TheVariants.{I1}
use Rattle.hlfir_ops.specs.declared.kinds.ValueKind.{ValueKind}
use Rattle.hlfir_ops.specs.declared.kinds.ValueKind.TheVariants as kind
use Rattle.hlfir_ops.specs.declared.what.BoundWord.{BoundWord}
use Rattle.hlfir_ops.specs.declared.what.BoundWord.TheVariants.{Lower, Upper, Lbound, Ubound, Extent}
use Rattle.hlfir_ops.specs.declared.what.ValueUnary.{ValueUnary}
use Rattle.hlfir_ops.specs.declared.what.ValueUnary.TheVariants as unary
use Rattle.hlfir_ops.specs.declared.what.ValueBinary.{ValueBinary}
use Rattle.hlfir_ops.specs.declared.what.ValueBinary.TheVariants as binary
use Rattle.hlfir_ops.specs.declared.what.What.{What}
use Rattle.hlfir_ops.specs.declared.what.What.TheVariants as what
use Rattle.hlfir_ops.specs.declared.op.ValueId.{ValueId}
use Rattle.hlfir_ops.specs.declared.op.Op.{Op, out-Op}
use Rattle.alias_test.specs.declared.designator.Sym.{Sym}
use Rattle.alias_test.specs.declared.designator.Sym.TheVariants.{Number, Truth, Scalar, Index, Unary, Binary, Kept, Size, Bound, Other}
use Rattle.alias_test.specs.Givers.{variable_of}
use Rattle.alias_test.specs.Tables.{entry_at}

abbrev pub Tree : Type 0
Tree = List Sym

-- ---- the symbol of a value

abbrev pub constant_symbol : ℤ → Option ValueKind → Sym
constant_symbol c (Some (kind.Scalar I1)) = Truth (is_true c)
constant_symbol c k = Number c

-- ABS is no operator.
abbrev pub unary_symbol : ValueUnary → Sym
unary_symbol unary.Neg = Unary Minus
unary_symbol unary.Not = Unary Not
unary_symbol unary.Abs = Other

-- Nor are MIN, MAX, MOD and MODULO.
abbrev pub binary_symbol : ValueBinary → Sym
binary_symbol binary.Add = Binary op.Add
binary_symbol binary.Sub = Binary op.Sub
binary_symbol binary.Mul = Binary op.Mul
binary_symbol binary.Div = Binary op.Div
binary_symbol binary.Pow = Binary op.Pow
binary_symbol binary.Eq = Binary op.Eq
binary_symbol binary.Ne = Binary op.Ne
binary_symbol binary.Lt = Binary op.Lt
binary_symbol binary.Le = Binary op.Le
binary_symbol binary.Gt = Binary op.Gt
binary_symbol binary.Ge = Binary op.Ge
binary_symbol binary.And = Binary op.And
binary_symbol binary.Or = Binary op.Or
binary_symbol binary.Eqv = Binary op.Eqv
binary_symbol binary.Neqv = Binary op.Neqv
binary_symbol binary.Min = Other
binary_symbol binary.Max = Other
binary_symbol binary.Mod = Other
binary_symbol binary.Modulo = Other

abbrev pub bound_symbol : BoundWord → ℕ → ℕ → Sym
bound_symbol Lower var dim = Kept var dim false
bound_symbol Upper var dim = Kept var dim true
bound_symbol Lbound var dim = Bound var dim false
bound_symbol Ubound var dim = Bound var dim true
bound_symbol Extent var dim = Size var dim

-- A load of a scalar variable is its name. One of an element is no name.
abbrev pub loaded_by : What → ℕ → Sym
loaded_by (what.Declare name) n = Scalar n
loaded_by w n = Other

abbrev pub loaded : Option Op → ℕ → Sym
loaded (Some op) n = loaded_by (out-Op op).what n
loaded None n = Other

-- of an op that asks something of this operand
abbrev pub asked_symbol : List Op → What → ValueId → Sym
asked_symbol gs what.Load v = loaded (slice_get gs v.number) v.number
asked_symbol gs (what.Bound word dim) r = bound_symbol word (variable_of gs r.number) dim
asked_symbol gs what.Size r = Size (variable_of gs r.number) 0
asked_symbol gs (what.Declare name) v = Other
asked_symbol gs (what.Assign realloc) v = Other
asked_symbol gs what.Masked v = Other
asked_symbol gs what.Elsewhere v = Other
asked_symbol gs (what.Forall names) v = Other
asked_symbol gs what.ForallMask v = Other
asked_symbol gs what.Workshare v = Other
asked_symbol gs what.DoLoop v = Other
asked_symbol gs (what.Allocmem also) v = Other
asked_symbol gs (what.Freemem also) v = Other
asked_symbol gs (what.Read also) v = Other
asked_symbol gs what.Yield v = Other
asked_symbol gs what.YieldElement v = Other
asked_symbol gs (what.Constant z) v = Other
asked_symbol gs (what.Unary op) v = Other
asked_symbol gs (what.Binary op) v = Other
asked_symbol gs what.Select v = Other
asked_symbol gs what.Boxed v = Other
asked_symbol gs what.Allocated v = Other
asked_symbol gs (what.Designate subs) v = Other
asked_symbol gs what.Vector v = Other
asked_symbol gs what.AsExpr v = Other
asked_symbol gs what.Elemental v = Other
asked_symbol gs what.Apply v = Other
asked_symbol gs (what.Reduce r) v = Other

-- the symbol of the value of this number, which an op of this sort gives
abbrev pub symbol_by : List Op → ℕ → What → List ValueId → Option ValueKind → Sym
symbol_by gs n (what.Constant c) os k = constant_symbol c k
symbol_by gs n (what.Forall names) os k = Index n
symbol_by gs n (what.Unary op) os k = unary_symbol op
symbol_by gs n (what.Binary op) os k = binary_symbol op
symbol_by gs n w (v ∷ more) k = asked_symbol gs w v
symbol_by gs n w [] k = Other

-- Operands are values of earlier ops in every module that keeps the rules.
abbrev pub are_earlier : ℕ → List ValueId → Bool
are_earlier n = list_all (λ v. nat_lt v.number n)

unfoldable pub symbol_of : List Op → ℕ → Op → Sym
symbol_of gs n op = if are_earlier n (out-Op op).operands then symbol_by gs n (out-Op op).what (out-Op op).operands (out-Op op).kind else Other

-- the operands whose trees stand before this symbol
abbrev pub parts_by : Sym → List ValueId → List ValueId
parts_by (Unary op) os = os
parts_by (Binary op) os = os
parts_by s os = []

abbrev pub symbol_given : List Op → ℕ → Option Op → Sym
symbol_given gs n (Some op) = symbol_of gs n op
symbol_given gs n None = Other

abbrev pub parts_given : List Op → ℕ → Option Op → List ValueId
parts_given gs n (Some op) = parts_by (symbol_of gs n op) (out-Op op).operands
parts_given gs n None = []

-- of the value of this number, which one of these ops gives
unfoldable pub symbol_at : List Op → ℕ → Sym
symbol_at gs n = symbol_given gs n (slice_get gs n)

unfoldable pub parts_at : List Op → ℕ → List ValueId
parts_at gs n = parts_given gs n (slice_get gs n)

-- ---- trees

-- the trees of the parts, which are among these, and then the symbol
abbrev pub tree_after : List Op → ℕ → List Tree → Tree
tree_after gs n trees = flat_map (λ v. slice_index_or trees v.number []) (parts_at gs n) ++ symbol_at gs n ∷ []

-- each tree from those of the earlier values
unfoldable pub tree_at : List Op → ℕ → Tree
tree_at gs = entry_at (tree_after gs)

-- the trees of these values, one after the other
unfoldable pub trees_at : List Op → List ValueId → Tree
trees_at gs = flat_map (λ v. tree_at gs v.number)
