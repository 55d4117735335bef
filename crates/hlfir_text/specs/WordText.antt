-- The words of operations, bounds and reductions.
use Rattle.std.specs.Prelude.{ℕ, List, codes}
use Rattle.hlfir_ops.specs.declared.what.ValueUnary.{ValueUnary}
use Rattle.hlfir_ops.specs.declared.what.ValueUnary.TheVariants as unary
use Rattle.hlfir_ops.specs.declared.what.ValueBinary.{ValueBinary}
use Rattle.hlfir_ops.specs.declared.what.ValueBinary.TheVariants as binary
use Rattle.hlfir_ops.specs.declared.what.BoundWord.{BoundWord}
use Rattle.hlfir_ops.specs.declared.what.BoundWord.TheVariants as bound
use Rattle.hlfir_ops.specs.declared.what.Reduction.{Reduction}
use Rattle.hlfir_ops.specs.declared.what.Reduction.TheVariants as reduction

abbrev pub unary_word : ValueUnary → List ℕ
unary_word unary.Neg = codes "hlfir.neg"
unary_word unary.Abs = codes "hlfir.abs"
unary_word unary.Not = codes "hlfir.not"

abbrev pub binary_word : ValueBinary → List ℕ
binary_word binary.Add = codes "arith.addi"
binary_word binary.Sub = codes "arith.subi"
binary_word binary.Mul = codes "arith.muli"
binary_word binary.Div = codes "arith.divsi"
binary_word binary.Min = codes "arith.minsi"
binary_word binary.Max = codes "arith.maxsi"
binary_word binary.Pow = codes "hlfir.pow"
binary_word binary.Mod = codes "hlfir.mod"
binary_word binary.Modulo = codes "hlfir.modulo"
binary_word binary.Eq = codes "arith.cmpi eq"
binary_word binary.Ne = codes "arith.cmpi ne"
binary_word binary.Lt = codes "arith.cmpi lt"
binary_word binary.Le = codes "arith.cmpi le"
binary_word binary.Gt = codes "arith.cmpi gt"
binary_word binary.Ge = codes "arith.cmpi ge"
binary_word binary.And = codes "arith.andi"
binary_word binary.Or = codes "arith.ori"
binary_word binary.Eqv = codes "hlfir.eqv"
binary_word binary.Neqv = codes "hlfir.neqv"

abbrev pub bound_word : BoundWord → List ℕ
bound_word bound.Lower = codes "hlfir.lower"
bound_word bound.Upper = codes "hlfir.upper"
bound_word bound.Lbound = codes "hlfir.lbound"
bound_word bound.Ubound = codes "hlfir.ubound"
bound_word bound.Extent = codes "hlfir.extent"

abbrev pub reduction_word : Reduction → List ℕ
reduction_word reduction.Sum = codes "hlfir.sum"
reduction_word reduction.Product = codes "hlfir.product"
reduction_word reduction.Minval = codes "hlfir.minval"
reduction_word reduction.Maxval = codes "hlfir.maxval"
reduction_word reduction.Count = codes "hlfir.count"
reduction_word reduction.Any = codes "hlfir.any"
reduction_word reduction.All = codes "hlfir.all"
