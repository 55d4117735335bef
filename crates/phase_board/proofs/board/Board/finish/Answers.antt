use Rattle.phase_board.proofs.Opened.{finishes_now}
use Rattle.phase_board.proofs.board.Board.finish.Goals as goal

pub fetch_add-requires : goal.fetch_add-requires
fetch_add-requires c = finishes_now c.args.self.now c.pass.inside _ c.pass.view_is c.pass.invariant c.requires.pass c.words_at-word.result c.words_at-word.ensures c.requires.whole
