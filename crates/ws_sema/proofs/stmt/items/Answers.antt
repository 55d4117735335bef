use Rattle.std.proofs.Common.{◌∙◌, sym, arith}
use Rattle.ws_sema.specs.Statements as statements
use Rattle.ws_types.proofs.Appended.{next, done}
use Rattle.ws_sema.proofs.stmt.items.Goals as goal

pub each-preserved : goal.each-preserved
each-preserved c = c.each.invariant ∙ next (statements.item_faults c.args.table.now c.args.line) c.args.es.now c.each.e-index c.e-item.result c.each.found c.item.new.found c.each-test.true c.e-item.is c.item.ensures

pub returns : goal.returns
returns c = sym (c.each.invariant ∙ done (statements.item_faults c.args.table.now c.args.line) c.args.es.now c.each.e-index c.each.found (omega arith))
