-- Each op of a lowered source has the regions, operands and result of its form.
use Rattle.hlfir_ops.specs.Rules.{operands_fit, result_fits}
use Rattle.lower_constructs.specs.Sites.{EveryOpPasses}

-- as many regions and operands as the form has, and the operands of its kinds
abbrev pub OperandsFit : Type 0
OperandsFit = EveryOpPasses (λ f p op. operands_fit p.around.elemental f.values op)

-- the result that the form gives
abbrev pub ResultsFit : Type 0
ResultsFit = EveryOpPasses (λ f p op. result_fits f.values op)
