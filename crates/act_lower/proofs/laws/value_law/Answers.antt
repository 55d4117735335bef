use Rattle.act_lower.proofs.Bodies.{value_stands}
use Rattle.act_lower.proofs.laws.value_law.Goals as goal

pub returns : goal.returns
returns c = value_stands
