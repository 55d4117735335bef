use Rattle.value_laws.proofs.Evaluated.{does-reduction}
use Rattle.value_laws.proofs.laws.reductions_stand.Goals as goal

pub returns : goal.returns
returns c = does-reduction
