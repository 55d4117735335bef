use Rattle.array_meaning.proofs.OtherElements.{law, in_forall}
use Rattle.array_meaning.proofs.laws.an_assignment_keeps_other_elements.Goals as goal

pub returns : goal.returns
returns c = record { selection = law; forall = in_forall }
