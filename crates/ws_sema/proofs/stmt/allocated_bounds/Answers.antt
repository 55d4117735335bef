use Rattle.std.proofs.Common.{◌∙◌, sym, arith}
use Rattle.ws_sema.specs.Statements as statements
use Rattle.ws_types.proofs.Appended.{next, done}
use Rattle.ws_sema.proofs.stmt.allocated_bounds.Goals as goal

pub each-preserved : goal.each-preserved
each-preserved c = c.each.invariant ∙ next (statements.allocated_bound_faults c.args.table.now c.args.line) c.args.bounds.now c.each.bound-index c.bound-item.result c.each.found c.allocated_bound.new.found c.each-test.true c.bound-item.is c.allocated_bound.ensures

pub returns : goal.returns
returns c = sym (c.each.invariant ∙ done (statements.allocated_bound_faults c.args.table.now c.args.line) c.args.bounds.now c.each.bound-index c.each.found (omega arith))
