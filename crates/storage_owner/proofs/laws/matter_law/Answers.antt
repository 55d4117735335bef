use Rattle.storage_owner.proofs.Rooms.{matter}
use Rattle.storage_owner.proofs.laws.matter_law.Goals as goal

pub returns : goal.returns
returns c = λ matters kinds n. matter matters kinds n
