use Rattle.alias_test.proofs.Selecting.{DisjointHaveNoElementInCommon-all}
use Rattle.alias_test.proofs.laws.disjoint_have_no_element_in_common.Goals as goal

pub returns : goal.returns
returns c = DisjointHaveNoElementInCommon-all
