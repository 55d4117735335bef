use Rattle.ws_lex.proofs.Ascii.{piece-text}
use Rattle.ws_lex.proofs.Pieces.{collect-step, within-step}
use Rattle.ws_lex.proofs.lex.collect.Goals as goal

pub pieces-preserved : goal.pieces-preserved
pieces-preserved c = record {
  same = collect-step c.args.cells.now c.args.bytes.now c.pieces.at _ c.spell-found.result c.args.limit c.pieces.begun _ c.pieces.out _ _ c.requires c.pieces-test.true c.spell-found.ensures.value c.spell-found.ensures.within.some c.in_ok-begun.ensures.out c.in_ok-begun.ensures.begun c.pieces.invariant.same;
  within = within-step c.args.cells.now c.args.bytes.now c.pieces.at c.spell-found.result.size c.requires c.pieces-test.true c.spell-found.ensures.within.within;
}

pub take_piece-requires : goal.take_piece-requires
take_piece-requires c = piece-text c.args.bytes.now c.pieces.at c.spell-found.result c.spell-found.ensures.value
