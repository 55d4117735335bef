use Rattle.std.proofs.Common.{◌≡◌, map, take}
use Rattle.step_eval.proofs.shaped.extents_of.Given as goal

abbrev pub invariant-loop-dim : goal.invariant-loop-dim
invariant-loop-dim l = l.extents ≡ map (λ d. d.extent) (take l.dim-index l.dims)
