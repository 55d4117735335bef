use Rattle.std.proofs.Common.{◌∙◌, ap, sym, arith, drop, ◌+◌}
use Rattle.ws_types.specs.Operations.{with_argument}
use Rattle.ws_types.specs.Expressions as one
use Rattle.ws_types.specs.Lists as lists
use Rattle.ws_types.proofs.Appended.{front, next, done}
use Rattle.ws_types.proofs.Walks.{part_value, part_noted, call_value, call_noted, unary_noted, binary_noted}
use Rattle.ws_types.proofs.typing.+judging.Goals as goal

pub arguments-each-preserved : goal.arguments-each-preserved
arguments-each-preserved t c = record {
  typed =
      c.each.invariant.typed
      ∙ ap (λ l. lists.arguments c.args.table.now c.args.inside c.each.arguments l) (front c.args.es.now c.each.e-index c.e-item.result c.each-test.true c.e-item.is)
      ∙ ap (λ a. lists.arguments c.args.table.now c.args.inside a (drop (c.each.e-index + 1) c.args.es.now)) (sym (c.with_argument-arguments.ensures ∙ ap (with_argument c.each.arguments) c.expr-typed.ensures.value));
  found = c.each.invariant.found ∙ next (one.faults c.args.table.now c.args.inside c.args.line) c.args.es.now c.each.e-index c.e-item.result c.each.found c.expr-typed.new.found c.each-test.true c.e-item.is c.expr-typed.ensures.faults;
}

pub arguments-returns-clause-faults : goal.arguments-returns-clause-faults
arguments-returns-clause-faults t c =
    sym (c.each.invariant.found ∙ done (one.faults c.args.table.now c.args.inside c.args.line) c.args.es.now c.each.e-index c.each.found (omega arith))

pub subs_of-each-preserved : goal.subs_of-each-preserved
subs_of-each-preserved t c = record {
  typed =
      c.each.invariant.typed
      ∙ ap (λ l. lists.subscripts c.args.table.now c.args.inside c.each.subscripts l) (front c.args.subs.now c.each.sub-index c.sub-item.result c.each-test.true c.sub-item.is)
      ∙ ap (λ s. lists.subscripts c.args.table.now c.args.inside s (drop (c.each.sub-index + 1) c.args.subs.now)) (sym c.with_sub-subscripts.ensures.value);
  found = c.each.invariant.found ∙ next (one.sub_faults c.args.table.now c.args.inside c.args.line) c.args.subs.now c.each.sub-index c.sub-item.result c.each.found c.with_sub-subscripts.new.found c.each-test.true c.sub-item.is c.with_sub-subscripts.ensures.faults;
  few = let r = c.with_sub-subscripts.ensures.rank in omega arith;
}

pub subs_of-returns-clause-faults : goal.subs_of-returns-clause-faults
subs_of-returns-clause-faults t c =
    sym (c.each.invariant.found ∙ done (one.sub_faults c.args.table.now c.args.inside c.args.line) c.args.subs.now c.each.sub-index c.each.found (omega arith))

pub expr-returns-in-Part-clause-value : goal.expr-returns-in-Part-clause-value
expr-returns-in-Part-clause-value t c = part_value c.args.table.now c.args.inside c.args.e.now c.in-Part.name c.in-Part.subs c.as_slice.result.now c.named-array.result c.part.result c.len.result c.subs_of-subscripts.result c.in-Part.is c.as_slice.ensures c.named-array.ensures.value c.len.ensures c.subs_of-subscripts.ensures.value c.part.ensures.value

pub expr-returns-in-Part-clause-faults : goal.expr-returns-in-Part-clause-faults
expr-returns-in-Part-clause-faults t c = part_noted c.args.table.now c.args.inside c.args.line c.args.e.now c.in-Part.name c.in-Part.subs c.as_slice.result.now c.named-array.result c.len.result c.args.found.now c.named-array.new.found c.subs_of-subscripts.new.found c.part.new.found c.in-Part.is c.as_slice.ensures c.named-array.ensures.value c.len.ensures c.named-array.ensures.faults c.subs_of-subscripts.ensures.faults c.part.ensures.faults

pub expr-returns-in-Call-clause-value : goal.expr-returns-in-Call-clause-value
expr-returns-in-Call-clause-value t c = call_value c.args.table.now c.args.inside c.args.e.now c.in-Call.word c.in-Call.es c.as_slice-in-Call.result.now c.called.result c.in-Call.is c.as_slice-in-Call.ensures c.called.ensures.value

pub expr-returns-in-Call-clause-faults : goal.expr-returns-in-Call-clause-faults
expr-returns-in-Call-clause-faults t c = call_noted c.args.table.now c.args.inside c.args.line c.args.e.now c.in-Call.word c.in-Call.es c.as_slice-in-Call.result.now c.args.found.now c.called.new.found c.in-Call.is c.as_slice-in-Call.ensures c.called.ensures.faults

pub expr-returns-in-Unary-clause-faults : goal.expr-returns-in-Unary-clause-faults
expr-returns-in-Unary-clause-faults t c = unary_noted c.args.table.now c.args.inside c.args.line c.args.e.now c.in-Unary.op c.in-Unary.e c.get-in-Unary.result.now c.expr-typed.result c.args.found.now c.expr-typed.new.found c.unary.new.found c.in-Unary.is c.get-in-Unary.ensures c.expr-typed.ensures.value c.expr-typed.ensures.faults c.unary.ensures.faults

pub expr-returns-in-Binary-clause-faults : goal.expr-returns-in-Binary-clause-faults
expr-returns-in-Binary-clause-faults t c = binary_noted c.args.table.now c.args.inside c.args.line c.args.e.now c.in-Binary.op c.in-Binary.a c.in-Binary.b c.get-in-Binary.result.now c.get-in-Binary-2.result.now c.expr-a.result c.expr-b.result c.args.found.now c.expr-a.new.found c.expr-b.new.found c.binary.new.found c.in-Binary.is c.get-in-Binary.ensures c.get-in-Binary-2.ensures c.expr-a.ensures.value c.expr-b.ensures.value c.expr-a.ensures.faults c.expr-b.ensures.faults c.binary.ensures.faults
