use Rattle.step_eval.proofs.WhereSteps.{masks_left}
use Rattle.step_eval.proofs.masked.masks_alone.Goals as goal

pub returns-clause-value : goal.returns-clause-value
returns-clause-value c =
    masks_left c.evaluate_masks.result c.args.world.now c.args.evaluated.now c.as_slice.result.now c.evaluate_masks.new.evaluated c.args.masks.now c.in_ok-terms.terms c.as_slice-pending.result.now c.in_ok-extents.extents c.as_slice-2.result.now c.last_line-line.result
    c.last_line-line.ensures c.in_ok-terms.ensures.value c.in_ok-extents.ensures.value c.as_slice.ensures c.as_slice-pending.ensures c.as_slice-2.ensures c.evaluate_masks.ensures.value
