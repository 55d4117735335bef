use Rattle.ws_base.proofs.Each.{AnyOrder-all}
use Rattle.ws_base.proofs.laws.any_order_gives_the_same_values.Goals as goal

pub returns : goal.returns
returns c = λ operation. AnyOrder-all operation
