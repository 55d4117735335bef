use Rattle.std.proofs.Common.{◌≡◌, length}
use Rattle.team_run.specs.Teams.{AllFree}
use Rattle.team_run.proofs.team.take_turns.Given as goal

abbrev pub invariant-each : goal.invariant-each
invariant-each g l = record { free : AllFree l.board l.passes; count : length l.passes ≡ length l.fn.passes }
