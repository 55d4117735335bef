use Rattle.alias_test.proofs.Dimensions.{EachHasItsDimensions-all}
use Rattle.alias_test.proofs.laws.each_has_its_dimensions.Goals as goal

pub returns : goal.returns
returns c = EachHasItsDimensions-all
