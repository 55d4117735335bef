use Rattle.std.proofs.Common.{◌∙◌, sym, arith}
use Rattle.ws_sema.specs.Statements as statements
use Rattle.ws_types.proofs.Appended.{next, done}
use Rattle.ws_sema.proofs.stmt.deallocations.Goals as goal

pub each-preserved : goal.each-preserved
each-preserved c = c.each.invariant ∙ next (statements.deallocation_faults c.args.table.now c.args.line) c.args.names.now c.each.name-index c.name-item.result c.each.found c.deallocation.new.found c.each-test.true c.name-item.is c.deallocation.ensures

pub returns : goal.returns
returns c = sym (c.each.invariant ∙ done (statements.deallocation_faults c.args.table.now c.args.line) c.args.names.now c.each.name-index c.each.found (omega arith))
