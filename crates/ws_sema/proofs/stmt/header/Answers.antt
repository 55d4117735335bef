use Rattle.std.proofs.Common.{◌∙◌, sym, arith}
use Rattle.std.proofs.lemmas.Grind.{common_steps}
use Rattle.ws_sema.proofs.Headers.{next_index, no_index}
use Rattle.ws_sema.proofs.stmt.header.Goals as goal

pub each-preserved : goal.each-preserved
each-preserved c = c.each.invariant ∙ next_index c.args.table.now c.args.barred.now c.args.line c.args.indexes.now c.each.i c.index-indexes-i.result c.each.found c.header_index.new.found c.each-test.true c.index-indexes-i.is (grind (arith, common_steps))

pub returns : goal.returns
returns c = sym (c.each.invariant ∙ no_index c.args.table.now c.args.barred.now c.args.line c.args.indexes.now c.each.i c.each.found (omega arith))
