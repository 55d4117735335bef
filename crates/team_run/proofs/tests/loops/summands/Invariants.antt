use Rattle.std.proofs.Common.{◌≡◌, ◌*◌, length}
use Rattle.team_run.proofs.tests.loops.summands.Given as goal

abbrev pub invariant-cells : goal.invariant-cells
invariant-cells l = record { room : length l.memory.cells ≡ 4 * l.count; unused : (l.memory.regions ≡ 0) × (l.memory.units ≡ 0) }
