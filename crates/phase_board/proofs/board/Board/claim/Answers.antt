use Rattle.phase_board.proofs.Opened.{claims_now}
use Rattle.phase_board.proofs.board.Board.claim.Goals as goal

pub fetch_add-found-requires : goal.fetch_add-found-requires
fetch_add-found-requires c = claims_now c.args.self.now c.pass.inside _ c.pass.view_is c.pass.invariant c.requires.pass c.words_at-word.result c.words_at-word.ensures c.requires.ready
