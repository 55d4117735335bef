-- Constant expressions on the way up: a constant that has no op yet may still become part of a larger one.
use Rattle.std.specs.Prelude.{◌≡◌, if◌then◌else◌, Some, None}
use Rattle.ws_base.specs.declared.op.UnOp.{UnOp}
use Rattle.ws_base.specs.declared.op.BinOp.{BinOp}
use Rattle.ws_types.specs.declared.constant.Constancy.{Constancy}
use Rattle.ws_types.specs.declared.constant.Constancy.TheVariants.{Value, NotConstant}
use Rattle.ws_types.specs.Constants as constants
use Rattle.hlfir_ops.specs.declared.kinds.Elem.TheVariants.{I32}
use Rattle.hlfir_ops.specs.Built.{Built}
use Rattle.lower_values.specs.declared.names.Names.{Names}
use Rattle.lower_values.specs.declared.operand.Operand.{Operand}
use Rattle.lower_values.specs.declared.folding.Reached.{Reached}
use Rattle.lower_values.specs.declared.folding.Reached.TheVariants.{Known, Given}
use Rattle.lower_values.specs.Lowerings.{Lowering, done, ◌>>=◌, Appends}
use Rattle.lower_values.specs.Operations.{constant, binary_of, binary_operation}

-- what is known of the value of an expression
abbrev pub known : Reached → Constancy
known (Known z) = Value z
known (Given x) = NotConstant

-- what is left to append
abbrev pub rest_of : Reached → Lowering Operand
rest_of (Known z) = constant I32 z
rest_of (Given x) = done x

-- an operator on what is known of its operands
abbrev pub signed : UnOp → Constancy → Constancy
signed op c = if constants.is_sign op then constants.signed op c else NotConstant

abbrev pub joined : BinOp → Constancy → Constancy → Constancy
joined op c d = if constants.is_arithmetic op then constants.joined op c d else NotConstant

-- an operator after its left operand
abbrev pub with_right : BinOp → Lowering Operand → Operand → Lowering Operand
with_right op p x = p >>= binary_operation (binary_of op) x

-- the value of an expression, where nothing is appended; or exactly the ops of its lowering, where it has no value
abbrev pub Reaches : Names → Constancy → Lowering Operand → Built → Built → Reached → Type 0
Reaches names c p old new (Known z) = (constants.value_of c ≡ Some z) × (new ≡ old)
Reaches names c p old new (Given x) = (constants.value_of c ≡ None) × Appends names p old new x
