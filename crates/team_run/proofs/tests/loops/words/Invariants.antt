use Rattle.std.proofs.Common.{◌≡◌, length}
use Rattle.team_run.proofs.tests.loops.words.Given as goal

abbrev pub invariant-each : goal.invariant-each
invariant-each l = length l.words.items ≡ l.at
