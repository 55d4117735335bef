use Rattle.std.proofs.Common.{arith}
use Rattle.unit_eval.proofs.AtBoard.{look_there}
use Rattle.unit_eval.proofs.site.UnitSiteSitePass.look.Goals as goal

pub overflow_cast-cell : goal.overflow_cast-cell
overflow_cast-cell g c = let l = look_there c.args.self.now.board.now c.args.hand.now c.requires.belongs.0 c.args.cell c.requires.may.0 in let s = c.args.self.now.board.now.sized in omega (arith, l, s)

pub look-requires-clause-cell : goal.look-requires-clause-cell
look-requires-clause-cell g c = look_there c.args.self.now.board.now c.args.hand.now c.requires.belongs.0 c.args.cell c.requires.may.0
