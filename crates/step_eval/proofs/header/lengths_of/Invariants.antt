use Rattle.std.proofs.Common.{◌≡◌, take}
use Rattle.ws_space.specs.Combinations.{lengths}
use Rattle.step_eval.proofs.header.lengths_of.Given as goal

abbrev pub invariant-loop-triplet : goal.invariant-loop-triplet
invariant-loop-triplet l = l.extents ≡ lengths (take l.triplet-index l.triplets)
