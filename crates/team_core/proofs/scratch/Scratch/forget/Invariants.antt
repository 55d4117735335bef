use Rattle.std.proofs.Common.{◌≡◌, ℕ, ◌<◌, ◌≤◌, length, get_or}
use Rattle.team_core.specs.Scratches.{untouched, openings}
use Rattle.team_core.proofs.Scratches.{opened}
use Rattle.team_core.proofs.scratch.Scratch.forget.Given as goal

abbrev pub invariant-loop-at : goal.invariant-loop-at
invariant-loop-at l = record {
  long : length l.self.cells ≡ length l.fn.self.cells;
  first : l.self.round ≡ 0;
  done : (k : ℕ) → k < l.at → get_or l.self.cells k untouched ≡ opened (get_or (openings l.fn.self.cells) k 0);
  left : (k : ℕ) → l.at ≤ k → get_or l.self.cells k untouched ≡ get_or l.fn.self.cells k untouched;
}
