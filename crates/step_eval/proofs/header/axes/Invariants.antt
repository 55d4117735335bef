use Rattle.std.proofs.Common.{◌≡◌, drop}
use Rattle.array_meaning.specs.Forall.{axes}
use Rattle.term_eval.specs.Lists.{then_rest}
use Rattle.step_eval.proofs.header.axes.Given as goal

abbrev pub invariant-each : goal.invariant-each
invariant-each l = axes l.world l.indexes ≡ then_rest l.triplets (axes l.world (drop l.index-index l.indexes))
