use Rattle.std.proofs.Common.{◌∙◌, w64}
use Rattle.std.proofs.lemmas.Int.{to_z-of_z}
use Rattle.act_eval.proofs.ValueSteps.{last_worth}
use Rattle.act_eval.proofs.values.last_of.Goals as goal

pub returns : goal.returns
returns c = last_worth c.args.registers.now c.args.count _ (λ e. c.if-count-eq0.false e) c.requires (to_z-of_z w64 c.same.result (record { sfits = c.same.type_inv }) ∙ c.same.ensures)
