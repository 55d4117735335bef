use Rattle.value_laws.proofs.Yielding.{expression-yields}
use Rattle.value_laws.proofs.laws.expressions_yield.Goals as goal

pub returns : goal.returns
returns c = expression-yields
