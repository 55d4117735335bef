use Rattle.phase_board.proofs.Opened.{judges_now}
use Rattle.phase_board.proofs.board.Board.verdict.Goals as goal

pub load-key-requires : goal.load-key-requires
load-key-requires c = judges_now c.args.self.now c.pass.inside _ c.pass.view_is c.pass.invariant c.requires.pass c.words_at-word.result c.words_at-word.ensures c.requires.seen
