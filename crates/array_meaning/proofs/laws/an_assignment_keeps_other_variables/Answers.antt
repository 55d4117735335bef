use Rattle.array_meaning.proofs.OtherVariables.{plain, masked, in_forall}
use Rattle.array_meaning.proofs.laws.an_assignment_keeps_other_variables.Goals as goal

pub returns : goal.returns
returns c = record { plain = plain; masked = masked; forall = in_forall }
