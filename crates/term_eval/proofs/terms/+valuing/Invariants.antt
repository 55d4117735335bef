use Rattle.std.proofs.Common.{◌≡◌, ◌+◌, ◌*◌, length, drop}
use Rattle.term_eval.specs.Lists as lists
use Rattle.term_eval.proofs.Weights.{weight, terms_weight, picks_weight, pick_weight}
use Rattle.term_eval.proofs.terms.+valuing.Given as goal

abbrev pub decreases-values : goal.decreases-values
decreases-values l = 2 * weight l.t.now

abbrev pub invariant-all_values-each : goal.invariant-all_values-each
invariant-all_values-each l = lists.all_values l.ts l.places ≡ lists.then_rest l.columns (lists.all_values (drop l.t-index l.ts) l.places)

abbrev pub decreases-all_values : goal.decreases-all_values
decreases-all_values l = 2 * terms_weight l.ts.now + 1

abbrev pub invariant-columns-each : goal.invariant-columns-each
invariant-columns-each l = record {
  as_many : length l.rest ≡ length l.places;
  same : lists.columns l.picks l.places ≡ lists.then_rest l.columns (lists.columns (drop l.pick-index l.picks) l.rest);
}

abbrev pub decreases-columns : goal.decreases-columns
decreases-columns l = 2 * picks_weight l.picks.now + 1

abbrev pub decreases-column : goal.decreases-column
decreases-column l = 2 * pick_weight l.pick.now
