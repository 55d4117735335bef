use Rattle.ws_expr.proofs.Powers.{popped}
use Rattle.ws_expr.proofs.reading.raised.Goals as goal

pub bases-preserved : goal.bases-preserved
bases-preserved c = popped _ c.in-Some.base c.bases.power c.in_ok-power.ensures c.in-Some.ensures c.bases.invariant
