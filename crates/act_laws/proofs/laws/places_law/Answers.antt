use Rattle.act_laws.proofs.Strands.{places_apart}
use Rattle.act_laws.proofs.laws.places_law.Goals as goal

pub returns : goal.returns
returns c = places_apart
