use Rattle.std.proofs.Common.{◌<◌}
use Rattle.team_run.specs.Teams.{IsFree}
use Rattle.team_run.proofs.turn.drive.Given as goal

abbrev pub invariant-turns : goal.invariant-turns
invariant-turns g l = record { free : IsFree l.board l.pass; patient : l.waited < 100000000 }
