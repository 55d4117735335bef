use Rattle.std.proofs.Common.{◌≡◌, ◌∷◌, sym, ap, ◌∙◌, ℤ}
use Rattle.ws_base.specs.Numbers.{default_half}
use Rattle.phase_ops.specs.declared.effect.Effect.{Effect}
use Rattle.phase_ops.specs.Partials.{total}
use Rattle.phase_ops.specs.Phases.{joined}
use Rattle.act_eval.specs.Sites.{View}
use Rattle.act_eval.proofs.Leads.{led_by}
use Rattle.act_eval.proofs.joins.run_join.Goals as goal

pub returns-clause-led : goal.returns-clause-led
returns-clause-led g c =
    let v : View = g.S.Site.view c.args.site.now c.args.hand.now in
    let v0 : View = g.S.Site.view c.args.site.now c.merged_cells-part.new.hand in
    let v' : View = g.S.Site.view c.args.site.now c.act.new.hand in
    let is : joined c.args.slot (total default_half g.M.Merge.kind _) ≡ c.effect_of-effect.result =
    sym (c.effect_of-effect.ensures ∙ ap (λ (x : ℤ). joined c.args.slot (total default_half g.M.Merge.kind x)) c.merged_cells-part.ensures.value) in
    led_by v v0 v' c.effect_of-effect.result c.merged_cells-part.ensures.same (c.requires.begins.0, c.requires.begins.1.left_is ∙ ap (λ (e : Effect). e ∷ c.requires.begins.0) is) c.act.ensures.done
