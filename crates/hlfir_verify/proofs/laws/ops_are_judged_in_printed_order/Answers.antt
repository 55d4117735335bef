use Rattle.hlfir_verify.proofs.Sited.{in_order}
use Rattle.hlfir_verify.proofs.laws.ops_are_judged_in_printed_order.Goals as goal

pub returns : goal.returns
returns c = in_order
