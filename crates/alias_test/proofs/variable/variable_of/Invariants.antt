-- What is reached refers to the same variable.
use Rattle.std.proofs.Common.{◌≡◌}
use Rattle.alias_test.specs.Givers.{ops_at, variable_of}
use Rattle.alias_test.proofs.variable.variable_of.Given as goal

abbrev pub invariant-boxes : goal.invariant-boxes
invariant-boxes l = variable_of (ops_at l.table) l.fn.v.number ≡ variable_of (ops_at l.table) l.at.number

abbrev pub decreases-boxes : goal.decreases-boxes
decreases-boxes l = l.at.number
