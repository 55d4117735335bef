use Rattle.std.proofs.Common.{ℕ, ◌+◌, ◌*◌, ◌<◌, ◌≤◌, slice_index}
use Rattle.std.specs.Mem.Slots.{slots_items}
use Rattle.phase_ops.specs.Phases.{none_yet}
use Rattle.phase_board.proofs.close.outcome.Given as goal

abbrev pub invariant-loop-at : goal.invariant-loop-at
invariant-loop-at l = (t : ℕ) → t < l.at → none_yet ≤ slice_index (slots_items l.closed.words) (4 + l.cells + 4 * t)
