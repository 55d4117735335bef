use Rattle.std.proofs.Common.{ap, ◌∙◌, map, ◌∷◌}
use Rattle.std.specs.List.{flat_map}
use Rattle.hlfir_ops.specs.RulesValues.{elem_of}
use Rattle.hlfir_ops.specs.RulesForms.{section_rank}
use Rattle.hlfir_ops.specs.declared.what.What.TheVariants as what
use Rattle.lower_values.specs.Lowerings.{giving}
use Rattle.lower_values.specs.References.{sub_kind, sub_values, part_kind, designated}
use Rattle.lower_values.proofs.Appended.{if-by}
use Rattle.lower_values.proofs.references.designated.Goals as goal

pub returns : goal.returns
unfolding designated
returns c =
    let r = c.args.array in
    let ss = c.args.subscripts.now in
    let operands = r.value ∷ flat_map sub_values ss in
    let kinds = map sub_kind ss in
    let kind = c.part_kind-kind.ensures ∙ (ap (λ e. part_kind e c.in_ok-section_rank.field-0) c.elem_of.ensures ∙ ap (part_kind (elem_of r.kind)) c.in_ok-section_rank.ensures) in
    if-by c.give.result c.args.build.now c.give.new.build
    (ap (λ os. giving (what.Designate c.in_ok-kinds.kinds) os c.part_kind-kind.result) c.in_ok-operands.ensures ∙
    (ap (λ k. giving (what.Designate c.in_ok-kinds.kinds) operands k) kind ∙ ap (λ ks. giving (what.Designate ks) operands (part_kind (elem_of r.kind) (section_rank kinds))) c.in_ok-kinds.ensures)) c.give.ensures
