use Rattle.phase_board.proofs.Opened.{notes_now, acts_on}
use Rattle.phase_board.proofs.board.Board.note.Goals as goal

pub fetch_min-requires : goal.fetch_min-requires
fetch_min-requires c = notes_now c.args.self.now c.pass.inside _ c.pass.view_is c.pass.invariant c.requires.pass c.words_at-word.result c.args.key c.words_at-word.ensures c.requires.next

pub invariant_of-pass : goal.invariant_of-pass
invariant_of-pass c = acts_on c.args.self.now c.pass.inside _ c.pass.view_is c.pass.invariant c.requires.pass c.fetch_min.new.seat.me c.acted-pass-inside.result _ c.requires.next c.acted-pass-inside.ensures c.fetch_min.ensures.2.0
