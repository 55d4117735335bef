use Rattle.storage_owner.proofs.Rooms.{unowned}
use Rattle.storage_owner.proofs.laws.unowned_law.Goals as goal

pub returns : goal.returns
returns c = λ l vs r c apart i h. unowned l vs r c apart i h
