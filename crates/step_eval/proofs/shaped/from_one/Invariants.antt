use Rattle.std.proofs.Common.{◌≡◌, take}
use Rattle.ws_space.specs.Replace.{from_one}
use Rattle.step_eval.proofs.shaped.from_one.Given as goal

abbrev pub invariant-loop-extent : goal.invariant-loop-extent
invariant-loop-extent l = l.dims ≡ from_one (take l.extent-index l.extents)
