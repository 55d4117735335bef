use Rattle.std.proofs.Common.{◌≡◌, drop}
use Rattle.hlfir_ops.specs.RulesValues.{has_vector}
use Rattle.hlfir_ops.proofs.sorts.has_vector.Given as goal

abbrev pub invariant-each : goal.invariant-each
invariant-each l = has_vector (drop l.sub-index l.subs) ≡ has_vector l.subs
