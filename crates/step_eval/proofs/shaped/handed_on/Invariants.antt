use Rattle.std.proofs.Common.{◌≡◌, take}
use Rattle.ws_space.specs.Replace.{handed_on}
use Rattle.step_eval.proofs.shaped.handed_on.Given as goal

abbrev pub invariant-loop-dim : goal.invariant-loop-dim
invariant-loop-dim l = l.dims ≡ handed_on (take l.dim-index l.held)
