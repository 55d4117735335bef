use Rattle.std.proofs.Common.{◌≡◌, map, drop}
use Rattle.array_meaning.specs.Where.{last_line}
use Rattle.step_eval.specs.Events.{mask_of}
use Rattle.step_eval.proofs.masked.last_line.Given as goal

abbrev pub invariant-loop-mask : goal.invariant-loop-mask
invariant-loop-mask l = last_line 0 (map mask_of l.masks) ≡ last_line l.line (map mask_of (drop l.mask-index l.masks))
