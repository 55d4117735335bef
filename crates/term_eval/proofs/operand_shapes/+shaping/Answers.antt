use Rattle.term_eval.proofs.OperandShapes.{of_section, of_call, of_binary, are_few, few_of}
use Rattle.term_eval.proofs.operand_shapes.+shaping.Goals as goal

pub operands-returns-in_ok-extents-in-Section-clause-value : goal.operands-returns-in_ok-extents-in-Section-clause-value
operands-returns-in_ok-extents-in-Section-clause-value t c =
    of_section c.args.t.now c.in-Section.field-0 c.in-Section.picks c.as_slice.result.now c.in_ok-extents-in-Section.field-0 c.array_operand.result c.in-Section.is c.as_slice.ensures c.in_ok-extents-in-Section.ensures c.array_operand.ensures

pub operands-returns-in_ok-extents-in-Section-clause-few : goal.operands-returns-in_ok-extents-in-Section-clause-few
operands-returns-in_ok-extents-in-Section-clause-few t c = λ small.
    are_few c.args.t.now c.array_operand.result
    (of_section c.args.t.now c.in-Section.field-0 c.in-Section.picks c.as_slice.result.now c.in_ok-extents-in-Section.field-0 c.array_operand.result c.in-Section.is c.as_slice.ensures c.in_ok-extents-in-Section.ensures c.array_operand.ensures)
    small

pub operands-returns-in_ok-append-in-Binary-clause-few : goal.operands-returns-in_ok-append-in-Binary-clause-few
operands-returns-in_ok-append-in-Binary-clause-few t c = λ small.
    few_of c.args.t.now c.append.new.self
    (of_binary c.args.t.now _ _ _ c.get-in-Binary.result.now c.get-in-Binary-2.result.now c.in_ok-shapes-in-Binary.shapes c.in_ok-more-in-Binary.more c.append.new.self c.in-Binary.is c.get-in-Binary.ensures c.get-in-Binary-2.ensures c.in_ok-shapes-in-Binary.ensures.value c.in_ok-more-in-Binary.ensures.value c.in_ok-append-in-Binary.ensures)
    small

pub operands-returns-in-Call-clause-value : goal.operands-returns-in-Call-clause-value
operands-returns-in-Call-clause-value t c =
    of_call c.args.t.now c.in-Call.field-0 c.in-Call.ts c.as_slice-in-Call.result.now c.all_operands.result c.in-Call.is c.as_slice-in-Call.ensures c.all_operands.ensures

pub operands-returns-in-Call-clause-few : goal.operands-returns-in-Call-clause-few
operands-returns-in-Call-clause-few t c = λ small.
    are_few c.args.t.now c.all_operands.result (of_call c.args.t.now c.in-Call.field-0 c.in-Call.ts c.as_slice-in-Call.result.now c.all_operands.result c.in-Call.is c.as_slice-in-Call.ensures c.all_operands.ensures) small
