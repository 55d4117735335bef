use Rattle.std.proofs.Common.{◌≡◌, drop}
use Rattle.step_eval.specs.Combinations.{index_values}
use Rattle.step_eval.proofs.combinations.values_of_index.Given as goal

abbrev pub invariant-each : goal.invariant-each
invariant-each l = index_values l.indexes l.triplets l.name l.places ≡ index_values (drop l.i l.indexes) (drop l.i l.triplets) l.name l.rest
