use Rattle.std.proofs.Common.{◌≡◌, ◌+◌, ◌*◌, drop}
use Rattle.term_eval.specs.Lists.{then_rest}
use Rattle.term_eval.proofs.ExprWeights.{weight, exprs_weight, subs_weight}
use Rattle.step_eval.specs.Combinations.{combinations_at, over_all, over_subs}
use Rattle.step_eval.proofs.combinations.+over.Given as goal

abbrev pub invariant-arguments_over-each : goal.invariant-arguments_over-each
invariant-arguments_over-each l = over_all l.world l.es (combinations_at l.indexes l.triplets l.places) ≡ then_rest l.columns (over_all l.world (drop l.e-index l.es) (combinations_at l.indexes l.triplets l.places))

abbrev pub invariant-subscripts_over-each : goal.invariant-subscripts_over-each
invariant-subscripts_over-each l = over_subs l.world l.subs (combinations_at l.indexes l.triplets l.places) ≡ then_rest l.columns (over_subs l.world (drop l.sub-index l.subs) (combinations_at l.indexes l.triplets l.places))

abbrev pub decreases-over : goal.decreases-over
decreases-over l = 2 * weight l.e.now

abbrev pub decreases-arguments_over : goal.decreases-arguments_over
decreases-arguments_over l = 2 * exprs_weight l.es.now + 1

abbrev pub decreases-subscripts_over : goal.decreases-subscripts_over
decreases-subscripts_over l = 2 * subs_weight l.subs.now + 1
