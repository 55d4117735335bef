use Rattle.phase_board.proofs.Opened.{arrives_now}
use Rattle.phase_board.proofs.board.Board.arrive.Goals as goal

pub fetch_add-requires : goal.fetch_add-requires
fetch_add-requires c = arrives_now c.args.self.now c.pass.inside _ c.pass.view_is c.pass.invariant c.requires.pass c.words_at-word.result c.words_at-word.ensures c.requires.out
