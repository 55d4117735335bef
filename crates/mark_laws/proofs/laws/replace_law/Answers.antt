use Rattle.std.proofs.Common.{ℤ}
use Rattle.mark_laws.proofs.Stands.{replaces}
use Rattle.mark_laws.proofs.laws.replace_law.Goals as goal

pub returns : goal.returns
returns c = replaces ℤ
