-- The text of an op from the texts of its parts.
use Rattle.hlfir_text.proofs.Printed.{op_put, op_counted}
use Rattle.hlfir_text.proofs.printing.+lines.Goals as goal

pub put_op-returns-clause-text : goal.put_op-returns-clause-text
put_op-returns-clause-text t c =
    op_put c.args.depth c.args.yields c.args.number c.in_ok-first.first c.value_count.result c.len.result c.args.op.now c.as_slice.result.now c.args.text.now.items c.put_head.new.text.items c.lone_word.result.now c.extend_from_slice.new.self.items c.put_regions.new.text.items
    c.in_ok-put_head.ensures c.len.ensures c.lone_word.ensures c.in_ok-extend_from_slice.ensures.items c.value_count.ensures c.in_ok-first.ensures c.as_slice.ensures c.in_ok-next.ensures.text

pub put_op-returns-clause-next : goal.put_op-returns-clause-next
put_op-returns-clause-next t c = op_counted c.args.number c.in_ok-first.first c.value_count.result c.in_ok-next.next c.args.op.now c.as_slice.result.now c.value_count.ensures c.in_ok-first.ensures c.as_slice.ensures c.in_ok-next.ensures.next
