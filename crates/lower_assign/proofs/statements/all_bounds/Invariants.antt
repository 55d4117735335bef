use Rattle.lower_assign.specs.Statements.{all_bounds}
use Rattle.lower_values.proofs.Turns.{MakesAll}
use Rattle.lower_assign.proofs.statements.all_bounds.Given as goal

abbrev pub invariant-each : goal.invariant-each
invariant-each l = MakesAll l.names (λ _. all_bounds) l.bounds l.bound-index l.initial.build l.build l.values
