use Rattle.phase_board.proofs.Opened.{puts_now, acts_on}
use Rattle.phase_board.proofs.board.Board.put.Goals as goal

pub store-requires : goal.store-requires
store-requires c = puts_now c.args.self.now c.pass.inside _ c.pass.view_is c.pass.invariant c.requires.pass c.args.cell c.args.value c.requires.next

pub invariant_of-pass : goal.invariant_of-pass
invariant_of-pass c = acts_on c.args.self.now c.pass.inside _ c.pass.view_is c.pass.invariant c.requires.pass c.store.new.seat.me c.acted-pass-inside.result _ c.requires.next c.acted-pass-inside.ensures c.store.ensures.2.0
