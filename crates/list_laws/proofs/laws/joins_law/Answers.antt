use Rattle.list_laws.proofs.Lists.{joins_join}
use Rattle.list_laws.proofs.laws.joins_law.Goals as goal

pub returns : goal.returns
returns c = joins_join
