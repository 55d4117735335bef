use Rattle.std.proofs.Common.{subst, ap, ◌∙◌, ℤ}
use Rattle.std.specs.Int.{w64}
use Rattle.std.proofs.lemmas.Int.{to_z-of_z}
use Rattle.ws_base.specs.Numbers.{default_half}
use Rattle.phase_ops.specs.Partials.{merge, part_of}
use Rattle.act_eval.specs.declared.site.Worth.{Worth}
use Rattle.act_eval.specs.Sites.{IsWorth}
use Rattle.act_eval.proofs.PartSteps.{gave_value, gave_nothing, gave_fault}
use Rattle.act_eval.proofs.parts.add.Goals as goal

pub returns-in-Value : goal.returns-in-Value
returns-in-Value g c = λ here later w f. gave_value g.M.Merge.kind c.args.least (g.M.Merge.part c.args.part) here later f c.in-Value.value (g.M.Merge.part c.merge.result)
    (subst (λ (x : Worth). IsWorth x here) c.in-Value.is w) (c.merge.ensures ∙ ap (λ (x : ℤ). merge default_half g.M.Merge.kind x (g.M.Merge.part c.args.part)) (c.of.ensures
    ∙ ap (λ (x : ℤ). part_of default_half g.M.Merge.kind x) (to_z-of_z w64 c.same.result (record { sfits = c.same.type_inv }) ∙ c.same.ensures)))

pub returns-in-Nothing : goal.returns-in-Nothing
returns-in-Nothing g c = λ here later w f. gave_nothing g.M.Merge.kind c.args.least (g.M.Merge.part c.args.part) here later f (subst (λ (x : Worth). IsWorth x here) c.in-Nothing.is w)

pub returns-in-Fault : goal.returns-in-Fault
returns-in-Fault g c = λ here later w f. gave_fault g.M.Merge.kind c.args.least (g.M.Merge.part c.args.part) here later f c.in-Fault.key c.min.result (subst (λ (x : Worth). IsWorth x here) c.in-Fault.is w) c.min.ensures
