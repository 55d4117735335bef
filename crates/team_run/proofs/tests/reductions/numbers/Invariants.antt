use Rattle.std.proofs.Common.{◌≡◌, ℕ, ◌+◌, ◌*◌, ◌<◌, length, slice_index}
use Rattle.team_run.proofs.tests.reductions.numbers.Given as goal

abbrev pub invariant-cells : goal.invariant-cells
invariant-cells l = record {
  room : length l.memory.cells ≡ 2 * l.count + 1;
  values : (k : ℕ) → k < l.at → slice_index l.memory.cells k ≡ l.from + k;
  unused : (l.memory.regions ≡ 0) × (l.memory.units ≡ 0);
}
