use Rattle.std.proofs.Common.{◌≡◌, drop}
use Rattle.lower_values.specs.Operations.{rank_from}
use Rattle.lower_values.proofs.elementals.rank_among.Given as goal

abbrev pub invariant-each : goal.invariant-each
invariant-each l = rank_from 0 l.xs ≡ rank_from l.rank (drop l.x-index l.xs)
