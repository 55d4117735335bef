use Rattle.segment_laws.proofs.Segments.{segment}
use Rattle.segment_laws.proofs.laws.segment_law.Goals as goal

pub returns : goal.returns
returns c = segment
