use Rattle.std.proofs.Common.{◌≡◌, ℕ, ◌+◌, ◌*◌, ◌<◌, slice_index, length}
use Rattle.std.specs.Mem.Slots.{slots_items}
use Rattle.phase_board.proofs.close.read_back.Given as goal

abbrev pub invariant-loop-at : goal.invariant-loop-at
invariant-loop-at l = record {
  long : length l.into ≡ length l.fn.into;
  words : (k : ℕ) → k < l.at → slice_index l.into k ≡ slice_index (slots_items l.closed.words) (l.first + l.step * k);
}
