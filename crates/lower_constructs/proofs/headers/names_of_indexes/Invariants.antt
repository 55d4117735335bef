use Rattle.std.proofs.Common.{◌≡◌, take, map}
use Rattle.lower_constructs.proofs.headers.names_of_indexes.Given as goal

abbrev pub invariant-each : goal.invariant-each
invariant-each l = l.names ≡ map (λ i. i.name) (take l.index-index l.indexes)
