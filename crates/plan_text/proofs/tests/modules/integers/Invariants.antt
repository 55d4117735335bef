use Rattle.std.proofs.Common.{◌≡◌}
use Rattle.plan_text.proofs.tests.modules.integers.Given as goal

abbrev pub invariant-each : goal.invariant-each
invariant-each l = l.build.around ≡ l.initial.build.around
