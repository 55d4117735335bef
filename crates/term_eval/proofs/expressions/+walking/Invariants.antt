use Rattle.std.proofs.Common.{◌≡◌, ◌≤◌, ◌+◌, ◌*◌, length, drop}
use Rattle.term_eval.specs.Lists as lists
use Rattle.term_eval.proofs.ExprWeights.{weight, exprs_weight, subs_weight, sub_weight, part_weight}
use Rattle.term_eval.proofs.expressions.+walking.Given as goal

abbrev pub decreases-walk : goal.decreases-walk
decreases-walk l = 2 * weight l.e.now

abbrev pub invariant-walks-each : goal.invariant-walks-each
invariant-walks-each l = lists.walks l.world l.es ≡ lists.then_rest l.ts (lists.walks l.world (drop l.e-index l.es))

abbrev pub decreases-walks : goal.decreases-walks
decreases-walks l = 2 * exprs_weight l.es.now + 1

abbrev pub invariant-picks-each : goal.invariant-picks-each
invariant-picks-each l = record {
  as_many : length l.picks ≡ l.i;
  within : l.i ≤ length l.dims;
  same : lists.picks l.world l.dims l.subs ≡ lists.then_rest l.picks (lists.picks l.world (drop l.i l.dims) (drop l.i l.subs));
}

abbrev pub decreases-picks : goal.decreases-picks
decreases-picks l = 2 * subs_weight l.subs.now + 1

abbrev pub decreases-one_pick : goal.decreases-one_pick
decreases-one_pick l = 2 * sub_weight l.sub.now

abbrev pub decreases-part : goal.decreases-part
decreases-part l = 2 * part_weight l.e.now
