use Rattle.storage_owner.proofs.Updating.{frame}
use Rattle.storage_owner.proofs.laws.frame_law.Goals as goal

pub returns : goal.returns
returns c = λ l kinds vs cells vars m m' room st long words keeps. frame l kinds vs cells vars m m' room st long words keeps
