use Rattle.std.proofs.Common.{◌≡◌, take}
use Rattle.lower_assign.proofs.known.copied.Given as goal

abbrev pub invariant-each : goal.invariant-each
invariant-each l = l.copies ≡ take l.constant-index l.constants
