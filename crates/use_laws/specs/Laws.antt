-- How the values of a lowered source are used.
use Rattle.hlfir_ops.specs.declared.op.Op.{out-Op}
use Rattle.hlfir_ops.specs.Rules.{are_defined, is_used_once}
use Rattle.lower_constructs.specs.Sites.{EveryOpPasses}

-- each operand is the value of an op that stands before, in its region or in one around it
abbrev pub OperandsAreDefined : Type 0
OperandsAreDefined = EveryOpPasses (λ f p op. are_defined p.defined (out-Op op).operands)

-- the value of an array expression is used once
abbrev pub ArraysAreUsedOnce : Type 0
ArraysAreUsedOnce = EveryOpPasses (λ f p op. is_used_once f.used p.number (out-Op op).kind)
