-- The same regions are entered.
use Rattle.std.proofs.Common.{◌≡◌}
use Rattle.hlfir_text.proofs.tests.sevens.Given as goal

abbrev pub invariant-each : goal.invariant-each
invariant-each l = l.build.around ≡ l.fn.build.around
