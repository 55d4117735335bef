use Rattle.lower_values.proofs.Turns.{MakesAll}
use Rattle.lower_constructs.specs.Modules.{triples}
use Rattle.lower_constructs.proofs.headers.triples.Given as goal

abbrev pub invariant-each : goal.invariant-each
invariant-each l = MakesAll l.names (λ _. triples) l.indexes l.index-index l.initial.build l.build l.all
