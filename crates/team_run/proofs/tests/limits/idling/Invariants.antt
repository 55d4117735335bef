use Rattle.std.proofs.Common.{◌≡◌, replicate, pos}
use Rattle.phase_ops.specs.declared.phase.Micro.TheVariants.{Fixed}
use Rattle.team_run.proofs.tests.limits.idling.Given as goal

abbrev pub invariant-each : goal.invariant-each
invariant-each l = l.list.items ≡ replicate l.counter (Fixed (pos 0))
