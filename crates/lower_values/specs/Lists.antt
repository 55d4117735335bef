-- The lowerings of expressions over lists.
use Rattle.std.specs.Prelude.{ℕ, suc, List, [], ◌∷◌, Option, Some, None, pos}
use Rattle.ws_base.specs.declared.name.Name.{Name}
use Rattle.ws_base.specs.declared.op.CallWord.{CallWord}
use Rattle.ws_tree.specs.declared.expr.Expr.{Expr}
use Rattle.ws_tree.specs.declared.expr.Sub.{Sub}
use Rattle.hlfir_ops.specs.declared.kinds.Elem.TheVariants.{I32}
use Rattle.hlfir_ops.specs.declared.what.ValueBinary.{ValueBinary}
use Rattle.lower_values.specs.declared.operand.Operand.{Operand}
use Rattle.lower_values.specs.declared.operand.Subscript.{Subscript}
use Rattle.lower_values.specs.Lowerings.{Lowering, done, ◌>>=◌}
use Rattle.lower_values.specs.Operations.{constant, joined}
use Rattle.lower_values.specs.References.{or_nothing}
use Rattle.lower_values.specs.Values.{value, subscript, part_of}
use Rattle.lower_values.specs.Values as one

unfoldable pub values : List Expr → Lowering (List Operand)
values [] = done []
values (e ∷ es) = do
  x ← value e
  xs ← values es
  done (x ∷ xs)

unfoldable pub nested : ValueBinary → Option Operand → List Expr → Lowering Operand
nested op before [] = done (or_nothing before)
nested op before (e ∷ es) = do
  y ← value e
  z ← joined op before y
  nested op (Some z) es

abbrev pub called : CallWord → List Expr → Lowering Operand
called w es = one.called w es (values es) (λ op. nested op None es)

unfoldable pub subscripts : Operand → ℕ → List Sub → Lowering (List Subscript)
subscripts r dim [] = done []
subscripts r dim (x ∷ xs) = do
  s ← subscript r dim x
  ss ← subscripts r (suc dim) xs
  done (s ∷ ss)

abbrev pub part : Name → List Sub → Lowering Operand
part x subs = part_of x (λ r. subscripts r 1 subs)

-- an expression, or what stands for it where it is omitted
abbrev pub given_or : Lowering Operand → Option Expr → Lowering Operand
given_or other None = other
given_or other (Some e) = value e

-- An omitted stride is 1.
abbrev pub stride : Option Expr → Lowering Operand
stride e = given_or (constant I32 (pos 1)) e
