use Rattle.std.proofs.Common.{◌≡◌, length}
use Rattle.team_run.specs.Teams.{AllFree}
use Rattle.team_run.proofs.team.work.Given as goal

abbrev pub invariant-rounds : goal.invariant-rounds
invariant-rounds g l = record { free : AllFree l.board l.passes; count : length l.passes ≡ length l.fn.passes }
