use Rattle.act_laws.proofs.Digiting.{place_digits}
use Rattle.act_laws.proofs.laws.digits_law.Goals as goal

pub returns : goal.returns
returns c s at place k files fs e are level here below = place_digits s at place k files fs e are level here below
