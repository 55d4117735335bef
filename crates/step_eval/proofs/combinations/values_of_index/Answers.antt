use Rattle.step_eval.proofs.IndexValues.{no_more}
use Rattle.step_eval.proofs.combinations.values_of_index.Goals as goal

pub returns-then-i-triplets : goal.returns-then-i-triplets
returns-then-i-triplets c = no_more c.args.indexes.now c.args.triplets.now c.args.name.now c.each.rest _ c.each.i c.if-i-triplets.true c.each.invariant
