use Rattle.std.proofs.Common.{◌∙◌, sym, arith}
use Rattle.ws_sema.specs.Statements as statements
use Rattle.ws_types.proofs.Appended.{next, done}
use Rattle.ws_sema.proofs.stmt.allocations.Goals as goal

pub each-preserved : goal.each-preserved
each-preserved c = c.each.invariant ∙ next (statements.allocation_faults c.args.table.now c.args.line) c.args.parts.now c.each.part-index c.part-item.result c.each.found c.allocation.new.found c.each-test.true c.part-item.is c.allocation.ensures

pub returns : goal.returns
returns c = sym (c.each.invariant ∙ done (statements.allocation_faults c.args.table.now c.args.line) c.args.parts.now c.each.part-index c.each.found (omega arith))
