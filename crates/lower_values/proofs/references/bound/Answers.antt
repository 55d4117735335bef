use Rattle.lower_values.specs.References.{bound}
use Rattle.lower_values.proofs.references.bound.Goals as goal

pub returns : goal.returns
unfolding bound
returns c = c.give_of.ensures
