use Rattle.std.proofs.Common.{◌≡◌, sym, ◌∙◌, ap, subst, cond, Bool, pos}
use Rattle.phase_ops.specs.declared.phase.Micro.{Micro}
use Rattle.phase_ops.specs.declared.phase.Micro.TheVariants as micro
use Rattle.phase_ops.specs.Phases.{Cells, looks, calm}
use Rattle.phase_ops.specs.Free.{In}
use Rattle.act_eval.specs.Sites.{named_cells}
use Rattle.act_eval.proofs.ValueSteps.{named_calm}
use Rattle.act_eval.proofs.values.calm_turn_at.Goals as goal

pub turn_at-requires-clause-loads : goal.turn_at-requires-clause-loads
turn_at-requires-clause-loads g c =
    let m : Cells = (g.S.Site.view c.args.site.now c.args.hand.now).cells in
    let as_is : calm c.args.op.now ≡ c.args.op.now = c.has_effect.ensures ∙ ap (λ (b : Bool). let o : Micro = cond b (micro.Fixed (pos 0)) c.args.op.now in o) c.if-has_effect.false in
    λ n h. c.requires.loads n (subst (λ (o : Micro). In n (looks m c.args.registers.now o)) (sym as_is) h)

pub turn_at-requires-clause-small : goal.turn_at-requires-clause-small
turn_at-requires-clause-small g c =
    let m : Cells = (g.S.Site.view c.args.site.now c.args.hand.now).cells in
    let as_is : calm c.args.op.now ≡ c.args.op.now = c.has_effect.ensures ∙ ap (λ (b : Bool). let o : Micro = cond b (micro.Fixed (pos 0)) c.args.op.now in o) c.if-has_effect.false in
    λ n h. (c.requires.loads n (named_calm m c.args.registers.now c.args.op.now n (subst (λ (o : Micro). In n (named_cells m c.args.registers.now o)) (sym as_is) h))).1
