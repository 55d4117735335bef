-- The operators and calls that ops stand for.
use Rattle.std.specs.Prelude.{List, [], ◌∷◌, Ok, ℤ, pos}
use Rattle.ws_base.specs.declared.op.UnOp.{UnOp}
use Rattle.ws_base.specs.declared.op.UnOp.TheVariants as unop
use Rattle.ws_base.specs.declared.op.BinOp.{BinOp}
use Rattle.ws_base.specs.declared.op.BinOp.TheVariants as binop
use Rattle.ws_base.specs.declared.op.CallWord.{CallWord}
use Rattle.ws_base.specs.declared.op.CallWord.TheVariants as word
use Rattle.ws_base.specs.Numbers.{Exact, default_half, unary_value, call_value}
use Rattle.ws_base.specs.Outcomes.{Staged}
use Rattle.ws_space.specs.Maps.{pair_value, unary_map, binary_map, call_map}
use Rattle.hlfir_ops.specs.declared.what.ValueUnary.{ValueUnary}
use Rattle.hlfir_ops.specs.declared.what.ValueUnary.TheVariants.{Neg, Abs, Not}
use Rattle.hlfir_ops.specs.declared.what.ValueBinary.{ValueBinary}
use Rattle.hlfir_ops.specs.declared.what.ValueBinary.TheVariants as op
use Rattle.hlfir_ops.specs.declared.what.Reduction.{Reduction}
use Rattle.hlfir_ops.specs.declared.what.Reduction.TheVariants as reduction

pub data Operation : Type 0 where
  unary : UnOp → Operation
  binary : BinOp → Operation
  call : CallWord → Operation

abbrev pub unary_operation : ValueUnary → Operation
unary_operation Neg = unary unop.Minus
unary_operation Abs = call word.Abs
unary_operation Not = unary unop.Not

abbrev pub binary_operation : ValueBinary → Operation
binary_operation op.Add = binary binop.Add
binary_operation op.Sub = binary binop.Sub
binary_operation op.Mul = binary binop.Mul
binary_operation op.Div = binary binop.Div
binary_operation op.Min = call word.Min
binary_operation op.Max = call word.Max
binary_operation op.Pow = binary binop.Pow
binary_operation op.Mod = call word.Mod
binary_operation op.Modulo = call word.Modulo
binary_operation op.Eq = binary binop.Eq
binary_operation op.Ne = binary binop.Ne
binary_operation op.Lt = binary binop.Lt
binary_operation op.Le = binary binop.Le
binary_operation op.Gt = binary binop.Gt
binary_operation op.Ge = binary binop.Ge
binary_operation op.And = binary binop.And
binary_operation op.Or = binary binop.Or
binary_operation op.Eqv = binary binop.Eqv
binary_operation op.Neqv = binary binop.Neqv

-- A select is MERGE, of which the mask is the last argument and not the first.
abbrev pub select_operation : Operation
select_operation = call word.Merge

abbrev pub mask_last : {A : Type 0} → List A → List A
mask_last (m ∷ t ∷ f ∷ []) = t ∷ f ∷ m ∷ []
mask_last xs = xs

abbrev pub reduction_word : Reduction → CallWord
reduction_word reduction.Sum = word.Sum
reduction_word reduction.Product = word.Product
reduction_word reduction.Minval = word.Minval
reduction_word reduction.Maxval = word.Maxval
reduction_word reduction.Count = word.Count
reduction_word reduction.Any = word.Any
reduction_word reduction.All = word.All

-- ---- an operation on single values, and as one map over all active places

abbrev pub operation_value : Operation → List ℤ → Exact
operation_value (unary o) (a ∷ []) = unary_value default_half o a
operation_value (unary o) _ = Ok (pos 0)
operation_value (binary o) xs = pair_value o xs
operation_value (call w) xs = call_value default_half w xs

abbrev pub operation_map : {X : Type 0} → Operation → List X → List (List ℤ) → Staged (List ℤ)
operation_map (unary o) at (xs ∷ []) = unary_map o xs
operation_map (binary o) at (xs ∷ ys ∷ []) = binary_map o at xs ys
operation_map (call w) at columns = call_map w at columns
operation_map _ at _ = Ok []
