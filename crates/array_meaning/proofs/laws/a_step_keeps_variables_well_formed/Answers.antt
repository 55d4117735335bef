use Rattle.array_meaning.proofs.KeptValues.{plain, masked, in_forall}
use Rattle.array_meaning.proofs.laws.a_step_keeps_variables_well_formed.Goals as goal

pub returns : goal.returns
returns c = record { plain = plain; masked = masked; forall = in_forall }
