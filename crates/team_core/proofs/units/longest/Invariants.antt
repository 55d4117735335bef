use Rattle.std.proofs.Common.{ℕ, ◌<◌}
use Rattle.team_core.specs.Laws.{phase_at}
use Rattle.team_core.specs.Units.{AreShort}
use Rattle.team_core.proofs.units.longest.Given as goal

abbrev pub invariant-loop-at : goal.invariant-loop-at
invariant-loop-at l = (t : ℕ) → t < l.at → AreShort (phase_at l.phases t) l.longest
