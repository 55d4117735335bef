use Rattle.alias_test.proofs.Selecting.{SameHaveTheSameElements-all}
use Rattle.alias_test.proofs.laws.same_have_the_same_elements.Goals as goal

pub returns : goal.returns
returns c = SameHaveTheSameElements-all
