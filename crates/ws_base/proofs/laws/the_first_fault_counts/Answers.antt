use Rattle.ws_base.proofs.Each.{FailsFirst-from_each}
use Rattle.ws_base.proofs.laws.the_first_fault_counts.Goals as goal

pub returns : goal.returns
returns c = λ operation. FailsFirst-from_each operation
