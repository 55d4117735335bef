use Rattle.std.proofs.Common.{ℤ}
use Rattle.loop_laws.proofs.Keyed.{keyed_loop}
use Rattle.loop_laws.proofs.laws.loop_key_law.Goals as goal

pub returns : goal.returns
returns c = keyed_loop ℤ
