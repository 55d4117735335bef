use Rattle.std.proofs.Common.{rules, sym, ap, ◌∙◌, FitsSigned, w32}
use Rattle.std.proofs.lemmas.Int.{to_z-of_z}
use Rattle.ws_types.specs.declared.constant.Constancy.TheVariants.{Value}
use Rattle.ws_types.specs.Constants as constants
use Rattle.ws_types.specs.Constants.{constancy, value_of}
use Rattle.lower_values.specs.Folding.{known, joined}
use Rattle.lower_values.proofs.Reaching.{joined-arithmetic}
use Rattle.lower_values.proofs.values.known_binary.Goals as goal

pub returns-then-is_arithmetic : goal.returns-then-is_arithmetic
returns-then-is_arithmetic c =
    let op = c.args.op in
    let b = c.args.b.now in
    let fits : FitsSigned w32 c.in-Known.a = search rules in
    let right = c.evaluate.ensures ∙ ap (λ cs. constancy cs b) c.as_slice.ensures in
    c.joined_value.ensures ∙
    (ap (λ z. value_of (constants.joined op (Value z) c.evaluate.result)) (to_z-of_z w32 c.in-Known.a fits) ∙
    (ap (λ d. value_of (constants.joined op (Value c.in-Known.a) d)) right ∙
    (ap value_of (sym (joined-arithmetic op (Value c.in-Known.a) (constancy c.args.names.now.constants b) (sym c.is_arithmetic.ensures ∙ c.if-is_arithmetic.true))) ∙
    ap (λ r. value_of (joined op (known r) (constancy c.args.names.now.constants b))) (sym c.in-Known.is))))
