use Rattle.ws_sema.proofs.Order.{all_noted}
use Rattle.ws_sema.proofs.checking.judge.Goals as goal

pub returns-clause-first : goal.returns-clause-first
returns-clause-first c = all_noted c.args.tree.now c.as_slice.result.now c.as_slice-2.result.now c.in_ok-table.table.items c.as_slice-3.result.now c.as_slice-5.result.now c.as_slice-4.result.now c.as_slice-6.result.now c.check_decls.new.found c.stmts.new.found c.check_limits.new.found
    c.as_slice.ensures c.as_slice-2.ensures c.in_ok-table.ensures c.as_slice-3.ensures.value c.as_slice-5.ensures.value c.as_slice-4.ensures c.as_slice-6.ensures c.in_ok-constants.ensures.faults c.in_ok-stmts.ensures c.in_ok-check_limits.ensures
