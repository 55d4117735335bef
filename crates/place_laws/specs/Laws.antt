-- What stands in the bodies of WHERE and FORALL and in lists of statements may stand there.
use Rattle.hlfir_ops.specs.declared.op.Op.{out-Op}
use Rattle.hlfir_ops.specs.Rules.{where_of, forall_of, lists_fit}
use Rattle.lower_constructs.specs.Sites.{EveryOpPasses}

-- The body of a WHERE holds assignments and WHERE, and its masks have the rank of all that they control.
abbrev pub WheresFit : Type 0
WheresFit = EveryOpPasses (λ f p op. where_of f.values (out-Op op).what (out-Op op).regions)

-- The body of a FORALL holds a mask at most, and then assignments to elements, with nothing of a rank above 0 inside.
abbrev pub ForallsFit : Type 0
ForallsFit = EveryOpPasses (λ f p op. forall_of f.values (out-Op op).what (out-Op op).regions)

-- Each list of statements holds what it may, and an op with `also` follows one of its sort and line.
abbrev pub ListsFit : Type 0
ListsFit = EveryOpPasses (λ f p op. lists_fit p.around.own p.before op)
