use Rattle.std.proofs.Common.{◌∙◌, sym, arith}
use Rattle.ws_counts.specs.Pieces as pieces
use Rattle.ws_counts.proofs.Tallied.{next, done}
use Rattle.ws_counts.proofs.statements.count_indexes.Goals as goal

pub each-preserved : goal.each-preserved
each-preserved c = c.each.invariant ∙ next (pieces.index_pieces c.args.table.now) c.args.indexes.now c.each.index-index c.index-item.result c.each.tally c.count_index.new.tally c.each-test.true c.index-item.is c.count_index.ensures

pub returns : goal.returns
returns c = sym (c.each.invariant ∙ done (pieces.index_pieces c.args.table.now) c.args.indexes.now c.each.index-index c.each.tally (omega arith))
