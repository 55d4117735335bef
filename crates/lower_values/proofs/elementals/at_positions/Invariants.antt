use Rattle.lower_values.specs.declared.names.Names.{Names}
use Rattle.lower_values.specs.Operations.{at_positions}
use Rattle.lower_values.proofs.Turns.{MakesAll}
use Rattle.lower_values.proofs.elementals.at_positions.Given as goal

abbrev pub invariant-each : goal.invariant-each
invariant-each l = (names : Names) → MakesAll names (λ _. at_positions) l.xs l.x-index l.initial.build l.build l.ys
