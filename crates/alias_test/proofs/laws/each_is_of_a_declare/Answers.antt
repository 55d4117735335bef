use Rattle.alias_test.proofs.Declares.{EachIsOfADeclare-all}
use Rattle.alias_test.proofs.laws.each_is_of_a_declare.Goals as goal

pub returns : goal.returns
returns c = EachIsOfADeclare-all
