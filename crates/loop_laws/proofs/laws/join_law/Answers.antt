use Rattle.std.proofs.Common.{ℤ}
use Rattle.loop_laws.proofs.Joined.{told_join}
use Rattle.loop_laws.proofs.laws.join_law.Goals as goal

pub returns : goal.returns
returns c = told_join ℤ
