use Rattle.team_core.specs.Shifts.{IsShift}
use Rattle.team_core.proofs.tests.run_at_random.Given as goal

abbrev pub invariant-loop : goal.invariant-loop
invariant-loop l = IsShift l.run.phases l.run.core l.team
