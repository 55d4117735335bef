use Rattle.lower_values.specs.Lowerings.{in_turn}
use Rattle.lower_values.proofs.Turns.{LowersAll}
use Rattle.lower_constructs.specs.Modules.{declaration}
use Rattle.lower_constructs.proofs.sources.declarations.Given as goal

abbrev pub invariant-each : goal.invariant-each
invariant-each l = LowersAll l.names (in_turn declaration) l.fn.names.variables l.variable-index l.initial.build l.build
