use Rattle.term_eval.proofs.Elements.{size-few, size-many}
use Rattle.term_eval.proofs.shapes.+size.Goals as goal

pub returns-in-len1-up-clause-few : goal.returns-in-len1-up-clause-few
returns-in-len1-up-clause-few t c = size-few c.args.extents.now c.size.result c.saturating_mul.result c.in-len1-up.len_at_least c.size.ensures.few c.saturating_mul.ensures

pub returns-in-len1-up-clause-many : goal.returns-in-len1-up-clause-many
returns-in-len1-up-clause-many t c = size-many c.args.extents.now c.size.result c.saturating_mul.result c.in-len1-up.len_at_least c.size.ensures.few c.size.ensures.many c.saturating_mul.ensures
