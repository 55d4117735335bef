use Rattle.array_meaning.proofs.KeptShapes.{plain, masked, in_forall, where_construct, forall_construct}
use Rattle.array_meaning.proofs.laws.a_step_keeps_shapes.Goals as goal

pub returns : goal.returns
returns c = record { plain = plain; masked = masked; forall = in_forall; where_construct = where_construct; forall_construct = forall_construct }
