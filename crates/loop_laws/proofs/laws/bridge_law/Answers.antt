use Rattle.std.proofs.Common.{ℤ}
use Rattle.loop_laws.proofs.Bridge.{bridged}
use Rattle.loop_laws.proofs.laws.bridge_law.Goals as goal

pub returns : goal.returns
returns c = bridged ℤ
