use Rattle.std.proofs.Common.{ap, length, arith}
use Rattle.hlfir_ops.specs.Numbers.{order_in}
use Rattle.assign_schedule.proofs.Counted.{op_order-length}
use Rattle.assign_schedule.proofs.counting.count_op.Goals as goal

pub returns : goal.returns
returns c = omega (arith, c.in_ok-count.ensures, c.in_ok-inside.ensures, op_order-length c.args.op.now, ap (λ rs. length (order_in rs)) c.as_slice.ensures)
