use Rattle.std.proofs.Common.{refl, sym, ap, ◌∙◌, [], ◌∷◌}
use Rattle.hlfir_ops.specs.declared.kinds.ValueKind.TheVariants.{Scalar}
use Rattle.hlfir_ops.specs.declared.what.What.TheVariants as what
use Rattle.lower_values.specs.Lowerings.{giving}
use Rattle.lower_values.proofs.Appended.{appends-by, appends-done, if-by}
use Rattle.lower_values.proofs.Positions.{at_position-scalar, at_position-array}
use Rattle.lower_values.proofs.elementals.at_position.Goals as goal

pub returns-then-rank_of-eq0 : goal.returns-then-rank_of-eq0
returns-then-rank_of-eq0 c = λ names. appends-by (sym (at_position-scalar c.args.x (sym c.rank_of.ensures ∙ c.if-rank_of-eq0.true))) refl (appends-done names c.args.build.now c.args.x)

pub returns-else-rank_of-eq0 : goal.returns-else-rank_of-eq0
returns-else-rank_of-eq0 c =
    let spelled = ap (λ e. giving what.Apply (c.args.x.value ∷ []) (Scalar e)) c.elem_of.ensures in
    if-by c.give_of.result c.args.build.now c.give_of.new.build (spelled ∙ sym (at_position-array c.args.x (λ none. c.if-rank_of-eq0.false (c.rank_of.ensures ∙ none)))) c.give_of.ensures
