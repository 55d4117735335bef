use Rattle.std.proofs.Common.{◌≡◌, drop}
use Rattle.lower_values.specs.References.{variable_of}
use Rattle.lower_values.proofs.references.variable_of.Given as goal

abbrev pub invariant-each : goal.invariant-each
invariant-each l = variable_of l.variables l.name ≡ variable_of (drop l.variable-index l.variables) l.name
