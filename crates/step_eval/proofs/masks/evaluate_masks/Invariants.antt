use Rattle.std.proofs.Common.{◌≡◌, All, drop}
use Rattle.step_eval.specs.Masked.{splits_through, splits_of, IsEvaluated}
use Rattle.step_eval.proofs.masks.evaluate_masks.Given as goal

abbrev pub invariant-loop-mask : goal.invariant-loop-mask
invariant-loop-mask l = record {
  value : splits_through l.extents (splits_of l.fn.evaluated) l.pending ≡ splits_through l.extents (splits_of l.evaluated) (drop l.mask-index l.pending);
  evaluated : All IsEvaluated l.evaluated;
}
