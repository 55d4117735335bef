-- Constant expressions, and their values.
use Rattle.std.specs.Prelude.{ℕ, Bool, true, false, nat_lt, if◌then◌else◌, List, [], ◌∷◌, ◌++◌, Option, Some, None, Ok, Err, ℤ, pos, bytes_eq}
use Rattle.ws_base.specs.declared.op.UnOp.{UnOp}
use Rattle.ws_base.specs.declared.op.UnOp.TheVariants as un
use Rattle.ws_base.specs.declared.op.BinOp.{BinOp}
use Rattle.ws_base.specs.declared.refusal.RefusalKind.TheVariants as kind
use Rattle.ws_base.specs.declared.refusal.Refusal.{Refusal}
use Rattle.ws_base.specs.Sorts.{operator_sort}
use Rattle.ws_base.specs.Numbers.{Exact, default_half, unary_value, binary_value, truth}
use Rattle.ws_tree.specs.declared.expr.Expr.{Expr}
use Rattle.ws_tree.specs.declared.expr.Expr.TheVariants.{Number, TooWide, TooDeep, Truth, Named, Part', Call', Vector'}
use Rattle.ws_tree.specs.Trees.{paren, unary, binary}
use Rattle.ws_types.specs.declared.constant.Constant.{Constant}
use Rattle.ws_types.specs.declared.constant.Constancy.{Constancy}
use Rattle.ws_types.specs.declared.constant.Constancy.TheVariants.{Value, NoValue, NotConstant}
use Rattle.ws_types.specs.Kinds.{when}
use Rattle.ws_types.specs.Names.{Name}
use Rattle.ws_types.specs.Expressions.{number_limit}

abbrev pub known : Option ℤ → Constancy
known (Some z) = Value z
known None = NoValue

-- the value of a named INTEGER constant that was declared before
abbrev pub constant_of : List Constant → Name → Constancy
constant_of [] x = NotConstant
constant_of (c ∷ cs) x = if bytes_eq c.name x then known c.value else constant_of cs x

abbrev pub of_exact : Exact → Constancy
of_exact (Ok z) = Value z
of_exact (Err fault) = NoValue

abbrev pub is_sign : UnOp → Bool
is_sign un.Minus = true
is_sign un.Plus = true
is_sign un.Not = false

abbrev pub is_arithmetic : BinOp → Bool
is_arithmetic op = (operator_sort op).constant

abbrev pub signed : UnOp → Constancy → Constancy
signed op (Value z) = of_exact (unary_value default_half op z)
signed op c = c

-- each intermediate value has to be in range, and no divisor 0
abbrev pub joined : BinOp → Constancy → Constancy → Constancy
joined op (Value a) (Value b) = of_exact (binary_value default_half op a b)
joined op NotConstant b = NotConstant
joined op a NotConstant = NotConstant
joined op a b = NoValue

abbrev pub number_constancy : ℕ → Constancy
number_constancy n = if nat_lt number_limit n then NoValue else Value (pos n)

-- An expression of digit strings, named INTEGER constants, parentheses, signs, `+ - * /`, and its value, if it has one.
abbrev pub constancy : List Constant → Expr → Constancy
constancy cs (Number n) = number_constancy n
constancy cs TooWide = NoValue
constancy cs TooDeep = NoValue
constancy cs (Named x) = constant_of cs x
constancy cs (paren e) = constancy cs e
constancy cs (unary op e) = if is_sign op then signed op (constancy cs e) else NotConstant
constancy cs (binary op a b) = if is_arithmetic op then joined op (constancy cs a) (constancy cs b) else NotConstant
constancy cs (Truth b) = NotConstant
constancy cs (Part' x _ subs) = NotConstant
constancy cs (Call' w _ es) = NotConstant
constancy cs (Vector' _ es) = NotConstant

-- the value of a LOGICAL constant is a literal
abbrev pub truth_constancy : Expr → Constancy
truth_constancy (Truth b) = Value (truth b)
truth_constancy TooDeep = NoValue
truth_constancy _ = NotConstant

abbrev pub is_no_constant : Constancy → Bool
is_no_constant (Value z) = false
is_no_constant NoValue = false
is_no_constant NotConstant = true

abbrev pub has_no_value : Constancy → Bool
has_no_value (Value z) = false
has_no_value NoValue = true
has_no_value NotConstant = false

unfoldable pub constant_faults : ℕ → Constancy → List Refusal
constant_faults line c = when (is_no_constant c) line kind.Unsupported ++ when (has_no_value c) line kind.OverLimit

abbrev pub value_of : Constancy → Option ℤ
value_of (Value z) = Some z
value_of NoValue = None
value_of NotConstant = None
