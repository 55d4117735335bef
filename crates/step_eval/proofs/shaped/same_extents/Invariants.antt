use Rattle.std.proofs.Common.{◌≡◌, drop}
use Rattle.ws_space.specs.Shapes.{same_extents, extents_of}
use Rattle.step_eval.proofs.shaped.same_extents.Given as goal

abbrev pub invariant-loop-i : goal.invariant-loop-i
invariant-loop-i l = same_extents (extents_of l.dims) l.extents ≡ same_extents (extents_of (drop l.i l.dims)) (drop l.i l.extents)
