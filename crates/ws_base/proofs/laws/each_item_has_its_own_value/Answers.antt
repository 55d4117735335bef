use Rattle.ws_base.proofs.Each.{EachAlone-all}
use Rattle.ws_base.proofs.laws.each_item_has_its_own_value.Goals as goal

pub returns : goal.returns
returns c = λ operation. EachAlone-all operation
