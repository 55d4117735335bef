use Rattle.region_laws.proofs.Means.{expressions_mean, lists_mean, left_sides_mean}
use Rattle.region_laws.proofs.laws.regions_mean.Goals as goal

pub returns-clause-expressions : goal.returns-clause-expressions
returns-clause-expressions c = expressions_mean

pub returns-clause-lists : goal.returns-clause-lists
returns-clause-lists c = lists_mean

pub returns-clause-left_sides : goal.returns-clause-left_sides
returns-clause-left_sides c = left_sides_mean
