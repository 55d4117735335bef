use Rattle.step_eval.specs.Masked.{one_split, splits_through, splits_of}
use Rattle.std.proofs.Common.{sym, ap, ◌∙◌}
use Rattle.step_eval.proofs.Splits.{mask_step, evaluated_more}
use Rattle.step_eval.proofs.masks.evaluate_masks.Goals as goal

pub loop-mask-preserved : goal.loop-mask-preserved
loop-mask-preserved c = record {
  value =
      let all = splits_through c.args.extents.now (splits_of c.args.evaluated.now) c.args.pending.now in
      let is = sym (ap (λ l. one_split c.args.extents.now (splits_of l) c.mask-item.result) c.as_slice.ensures) ∙ c.in_ok-places.ensures.value in
      mask_step c.args.extents.now all c.loop-mask.evaluated c.push.new.self c.args.pending.now c.loop-mask.mask-index c.mask-item.result c.in_ok-places.places c.loop-mask-test.true c.mask-item.is is c.in_ok-push.ensures.ok c.loop-mask.invariant.value;
  evaluated = evaluated_more c.loop-mask.evaluated c.push.new.self c.in_ok-places.places c.in_ok-push.ensures.ok c.loop-mask.invariant.evaluated c.in_ok-places.ensures.evaluated;
}
