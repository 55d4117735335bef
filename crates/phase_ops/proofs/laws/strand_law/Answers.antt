use Rattle.phase_ops.proofs.Strands.{strand_after, effects_after}
use Rattle.phase_ops.proofs.laws.strand_law.Goals as goal

pub returns : goal.returns
returns c = λ p m chunk s others apart there of. (strand_after p m chunk s apart there others of, effects_after p m chunk s apart there others of)
