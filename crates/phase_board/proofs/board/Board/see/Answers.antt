use Rattle.phase_board.proofs.Opened.{sees_now}
use Rattle.phase_board.proofs.board.Board.see.Goals as goal

pub load-found-requires : goal.load-found-requires
load-found-requires c = sees_now c.args.self.now c.pass.inside _ c.pass.view_is c.pass.invariant c.requires.pass c.words_at-word.result c.words_at-word.ensures c.requires.arrived
