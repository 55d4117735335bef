use Rattle.std.proofs.Common.{All}
use Rattle.step_eval.specs.Masked.{IsSmallMask}
use Rattle.step_eval.proofs.MaskTerms.{Made}
use Rattle.step_eval.proofs.masked.mask_terms.Given as goal

abbrev pub invariant-loop-mask : goal.invariant-loop-mask
invariant-loop-mask l = record { made : Made l.world l.shape_line l.masks l.mask-index l.terms; small : All IsSmallMask l.terms }
