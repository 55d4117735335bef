use Rattle.std.proofs.Common.{◌∙◌, sym, arith}
use Rattle.ws_sema.specs.Statements as statements
use Rattle.ws_types.proofs.Appended.{next, done}
use Rattle.ws_sema.proofs.Blocks.{masked_noted, forall_noted, loop_noted, shared_noted, else_noted}
use Rattle.ws_sema.proofs.walk.+walking.Goals as goal

pub body-returns-in_ok-elses-in-Masked : goal.body-returns-in_ok-elses-in-Masked
body-returns-in_ok-elses-in-Masked t c = masked_noted c.args.table.now c.args.within c.args.line c.args.body.now c.in-Masked.mask c.in-Masked.block c.as_slice.result.now c.in-Masked.rest c.as_slice-in-Masked.result.now c.where_mask-rank.result c.args.found.now c.where_mask-rank.new.found c.stmts.new.found c.elses.new.found
    c.in-Masked.is c.as_slice.ensures c.as_slice-in-Masked.ensures (sym c.is_inside.ensures ∙ c.if-is_inside.false) c.where_mask-rank.ensures.value c.where_mask-rank.ensures.faults c.in_ok-stmts-in-Masked.ensures c.in_ok-elses-in-Masked.ensures

pub body-returns-in_ok-stmts-in-Forall : goal.body-returns-in_ok-stmts-in-Forall
body-returns-in_ok-stmts-in-Forall t c = forall_noted c.args.table.now c.args.within c.args.line c.args.body.now c.in-Forall.indexes c.as_slice-in-Forall.result.now c.in-Forall.mask c.in-Forall.block c.as_slice-in-Forall-3.result.now c.as_slice-in-Forall-2.result.now c.args.found.now c.forall_header.new.found c.stmts-in-Forall.new.found
    c.in-Forall.is c.as_slice-in-Forall-3.ensures c.as_slice-in-Forall.ensures (sym c.is_masked.ensures ∙ c.if-is_masked.false) (c.as_slice-in-Forall-2.ensures.value ∙ c.in_ok-inner-in-Forall.ensures.value) c.in_ok-inner-in-Forall.ensures.faults c.in_ok-stmts-in-Forall.ensures

pub body-returns-in_ok-stmts-in-Loop : goal.body-returns-in_ok-stmts-in-Loop
body-returns-in_ok-stmts-in-Loop t c = loop_noted c.args.table.now c.args.within c.args.line c.args.body.now c.in-Loop.var c.in-Loop.l c.in-Loop.u c.in-Loop.s c.in-Loop.block c.as_slice-in-Loop-2.result.now c.as_slice-in-Loop.result.now c.args.found.now c.loop_header.new.found c.stmts-in-Loop.new.found
    c.in-Loop.is c.as_slice-in-Loop-2.ensures (sym c.is_masked-in-Loop.ensures ∙ c.if-is_masked-2.false) (c.as_slice-in-Loop.ensures.value ∙ c.in_ok-inner-in-Loop.ensures) c.loop_header.ensures c.in_ok-stmts-in-Loop.ensures

pub body-returns-in_ok-stmts-in-Shared : goal.body-returns-in_ok-stmts-in-Shared
body-returns-in_ok-stmts-in-Shared t c = shared_noted c.args.table.now c.args.within c.args.line c.args.body.now c.in-Shared.block c.as_slice-in-Shared.result.now c.args.found.now c.stmts-in-Shared.new.found
    c.in-Shared.is c.as_slice-in-Shared.ensures (sym c.is_outside.ensures ∙ c.if-not-is_outside.false) c.in_ok-stmts-in-Shared.ensures

pub else_part-returns : goal.else_part-returns
else_part-returns t c = else_noted c.args.table.now c.args.line c.args.first c.args.part.now c.else_mask-control.result c.as_slice.result.now c.args.found.now c.else_mask-control.new.found c.stmts.new.found c.as_slice.ensures c.else_mask-control.ensures.value c.else_mask-control.ensures.faults c.in_ok-stmts.ensures

pub elses-each-preserved : goal.elses-each-preserved
elses-each-preserved t c = c.each.invariant ∙ next (statements.else_faults c.args.table.now c.args.line c.args.first) c.args.rest.now c.each.part-index c.part-item.result c.each.found c.else_part.new.found c.each-test.true c.part-item.is c.in_ok-else_part.ensures

pub elses-returns : goal.elses-returns
elses-returns t c = sym (c.each.invariant ∙ done (statements.else_faults c.args.table.now c.args.line c.args.first) c.args.rest.now c.each.part-index c.each.found (omega arith))

pub stmts-each-preserved : goal.stmts-each-preserved
stmts-each-preserved t c = c.each.invariant ∙ next (statements.stmt_faults c.args.table.now c.args.within) c.args.block.now c.each.stmt-index c.stmt-item.result c.each.found c.statement.new.found c.each-test.true c.stmt-item.is c.in_ok-statement.ensures

pub stmts-returns : goal.stmts-returns
stmts-returns t c = sym (c.each.invariant ∙ done (statements.stmt_faults c.args.table.now c.args.within) c.args.block.now c.each.stmt-index c.each.found (omega arith))
