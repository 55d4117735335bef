use Rattle.std.proofs.Common.{rules, sym, ◌∙◌, ◌≡◌, get_or, pos, w64}
use Rattle.std.proofs.lemmas.Int.{to_z-of_z}
use mir.Val.{SFits}
use Rattle.ws_space.specs.Masks as masks
use Rattle.ws_base.specs.Numbers.{is_true}
use Rattle.step_eval.proofs.Chosen.{taken, left}
use Rattle.step_eval.proofs.masks.chosen.Goals as goal
use Rattle.step_eval.proofs.masks.chosen.Goals.{then-is_chosen+in_ok-push, else-is_chosen}

pub loop-i-preserved : goal.loop-i-preserved
loop-i-preserved c =
    let ps = c.args.places.now in
    let vs = c.args.values.now in
    let fits : SFits w64 (get_or vs c.loop-i.i (pos 0)) = search rules in
    let test : c.is_chosen.result ≡ masks.same_truth c.args.want (is_true (get_or vs c.loop-i.i (pos 0))) = simp to_z-of_z at c.is_chosen.ensures in
    let all = masks.chosen c.args.want ps vs in
    elim c.if-is_chosen.branch [
      | then-is_chosen+in_ok-push w ↦ taken c.args.want ps vs c.loop-i.i all c.loop-i.chosen c.if-is_chosen.chosen c.loop-i-test.true c.requires c.loop-i.invariant (sym test ∙ w.if-is_chosen.true) (w.chosen-is ∙ w.in_ok-push.ensures.ok)
      | else-is_chosen w ↦ left c.args.want ps vs c.loop-i.i all c.loop-i.chosen c.if-is_chosen.chosen c.loop-i-test.true c.requires c.loop-i.invariant (sym test ∙ w.if-is_chosen.false) w.chosen-is
    ]
