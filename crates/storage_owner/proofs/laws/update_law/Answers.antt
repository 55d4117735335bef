use Rattle.storage_owner.proofs.Updating.{updated}
use Rattle.storage_owner.proofs.laws.update_law.Goals as goal

pub returns : goal.returns
returns c = λ l kinds vs cells vars m m' goal v s room st long words keeps named fit stands. updated l kinds vs cells vars m m' room st goal keeps v s named long words fit stands
