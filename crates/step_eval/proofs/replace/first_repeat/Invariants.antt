-- The targets before place i are marked, and none of them stands twice.
use Rattle.std.proofs.Common.{◌≡◌, ◌<◌, All, ℕ, List, drop, length}
use Rattle.ws_space.specs.Values.{first_repeat, repeat_after}
use Rattle.step_eval.proofs.Replaced.{Marks}
use Rattle.step_eval.proofs.replace.first_repeat.Given as goal

abbrev pub invariant-loop-i : goal.invariant-loop-i
invariant-loop-i l = (seen : List ℕ) × (first_repeat l.targets ≡ repeat_after seen l.i (drop l.i l.targets)) × All (λ t. t < length l.seen.items) l.targets × Marks l.seen.items seen
