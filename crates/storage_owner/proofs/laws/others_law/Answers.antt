use Rattle.storage_owner.proofs.Updating.{others}
use Rattle.storage_owner.proofs.laws.others_law.Goals as goal

pub returns : goal.returns
returns c = λ l kinds vs cells vars m m' goal n room st keeps i other. others l kinds vs cells vars m m' room st goal keeps n i other
