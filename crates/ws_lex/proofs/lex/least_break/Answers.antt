use Rattle.ws_lex.proofs.Pieces.{least-step, within-step}
use Rattle.ws_lex.proofs.lex.least_break.Goals as goal

pub pieces-preserved : goal.pieces-preserved
pieces-preserved c = record {
  same = least-step c.args.cells.now c.args.bytes.now c.pieces.at _ c.spell-found.result c.pieces.best _ _ c.requires c.pieces-test.true c.spell-found.ensures.value c.spell-found.ensures.within.some c.noted-best.ensures c.pieces.invariant.same;
  within = within-step c.args.cells.now c.args.bytes.now c.pieces.at c.spell-found.result.size c.requires c.pieces-test.true c.spell-found.ensures.within.within;
}
