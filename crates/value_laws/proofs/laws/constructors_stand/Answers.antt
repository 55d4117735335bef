use Rattle.value_laws.proofs.Constructors.{does-vector}
use Rattle.value_laws.proofs.laws.constructors_stand.Goals as goal

pub returns : goal.returns
returns c = does-vector
