use Rattle.std.proofs.Common.{◌≡◌, replicate}
use Rattle.team_run.specs.Added.{added}
use Rattle.team_run.proofs.tests.loops.adding.Given as goal

abbrev pub invariant-each : goal.invariant-each
invariant-each l = l.phases.items ≡ replicate l.counter (added l.count)
