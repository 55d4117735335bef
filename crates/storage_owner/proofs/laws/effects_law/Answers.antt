use Rattle.storage_owner.proofs.Laid.{laid_stand}
use Rattle.storage_owner.proofs.laws.effects_law.Goals as goal

pub returns : goal.returns
returns c = λ l kinds vs cells vars m es room st free small. laid_stand l kinds vs cells vars m es room st free small
