use Rattle.std.proofs.Common.{drop, ◌∙◌, ◌≡◌, ◌-◌, length, get_or, pos, w64, arith, rules}
use Rattle.std.proofs.lemmas.Int.{to_z-of_z}
use mir.Val.{SFits}
use Rattle.step_eval.proofs.Replaced.{store_start, store_step, least_reached}
use Rattle.step_eval.proofs.replace.store.Goals as goal

pub targets-init : goal.targets-init
targets-init c = store_start c.args.targets.now c.args.new.now c.args.values.now c.min-count.result (least_reached (length c.args.targets.now) (length c.args.new.now) c.min-count.result c.min-count.ensures)

pub targets-preserved : goal.targets-preserved
targets-preserved c =
    let fits : SFits w64 (get_or c.args.new.now (c.targets.i - 1) (pos 0)) = search rules in
    simp to_z-of_z at c.replace_at.ensures ∙ store_step c.args.targets.now c.args.new.now c.args.values.now c.targets.values c.targets.i c.targets-test.true (grind arith) (grind arith) c.targets.invariant
