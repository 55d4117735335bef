-- What the scalar operations of a phase give: the arithmetic of a kind of INTEGER, where a truth value is 0 or 1.
use Rattle.std.specs.Prelude.{ℕ, [], ◌∷◌, ℤ}
use Rattle.ws_base.specs.Numbers.{Exact}
use Rattle.ws_base.specs.Numbers as number
use Rattle.ws_base.specs.declared.op.UnOp.TheVariants as un
use Rattle.ws_base.specs.declared.op.BinOp.TheVariants as bin
use Rattle.ws_base.specs.declared.op.CallWord.TheVariants as word
use Rattle.phase_ops.specs.declared.phase.OneOp.{OneOp}
use Rattle.phase_ops.specs.declared.phase.OneOp.TheVariants.{Minus, Plus, Not, Abs}
use Rattle.phase_ops.specs.declared.phase.ScalarOp.{ScalarOp}
use Rattle.phase_ops.specs.declared.phase.ScalarOp.TheVariants.{Add, Sub, Mul, Div, Pow, Eq, Ne, Lt, Le, Gt, Ge, And, Or, Eqv, Neqv, Mod, Modulo, Min, Max}

abbrev pub one_value : ℕ → OneOp → ℤ → Exact
one_value half Minus a = number.unary_value half un.Minus a
one_value half Plus a = number.unary_value half un.Plus a
one_value half Not a = number.unary_value half un.Not a
one_value half Abs a = number.call_value half word.Abs (a ∷ [])

abbrev pub scalar_value : ℕ → ScalarOp → ℤ → ℤ → Exact
scalar_value half Add a b = number.binary_value half bin.Add a b
scalar_value half Sub a b = number.binary_value half bin.Sub a b
scalar_value half Mul a b = number.binary_value half bin.Mul a b
scalar_value half Div a b = number.binary_value half bin.Div a b
scalar_value half Pow a b = number.binary_value half bin.Pow a b
scalar_value half Eq a b = number.binary_value half bin.Eq a b
scalar_value half Ne a b = number.binary_value half bin.Ne a b
scalar_value half Lt a b = number.binary_value half bin.Lt a b
scalar_value half Le a b = number.binary_value half bin.Le a b
scalar_value half Gt a b = number.binary_value half bin.Gt a b
scalar_value half Ge a b = number.binary_value half bin.Ge a b
scalar_value half And a b = number.binary_value half bin.And a b
scalar_value half Or a b = number.binary_value half bin.Or a b
scalar_value half Eqv a b = number.binary_value half bin.Eqv a b
scalar_value half Neqv a b = number.binary_value half bin.Neqv a b
scalar_value half Mod a b = number.call_value half word.Mod (a ∷ b ∷ [])
scalar_value half Modulo a b = number.call_value half word.Modulo (a ∷ b ∷ [])
scalar_value half Min a b = number.call_value half word.Min (a ∷ b ∷ [])
scalar_value half Max a b = number.call_value half word.Max (a ∷ b ∷ [])
