use Rattle.std.proofs.Common.{◌≡◌, ◌++◌, drop}
use Rattle.ws_space.specs.Masks as masks
use Rattle.step_eval.proofs.masks.chosen.Given as goal

abbrev pub invariant-loop-i : goal.invariant-loop-i
invariant-loop-i l = masks.chosen l.want l.places l.values ≡ l.chosen ++ masks.chosen l.want (drop l.i l.places) (drop l.i l.values)
