use Rattle.std.proofs.Common.{refl, arith}
use Rattle.unit_eval.proofs.AtBoard.{next_as, small_store, small_least, done_view, acted_as}
use Rattle.unit_eval.proofs.site.UnitSiteSitePass.act.Goals as goal

pub overflow_cast-cell : goal.overflow_cast-cell
overflow_cast-cell g c = let l = small_store c.args.self.now.board.now c.args.hand.now g.K.Runs.claimed c.requires.belongs c.args.effect _ c.requires.next c.in-Store.is c.in-Store.cell c.in-Store.value refl in omega (arith, l)

pub put-requires-clause-next : goal.put-requires-clause-next
put-requires-clause-next g c = next_as c.args.self.now.board.now c.args.hand.now g.K.Runs.claimed c.requires.belongs c.args.effect _ c.requires.next c.in-Store.is

pub returns-in-Store-clause-done : goal.returns-in-Store-clause-done
returns-in-Store-clause-done g c = λ more l. done_view c.args.self.now.board.now c.args.hand.now c.requires.belongs.0 c.args.effect more c.put.new.pass c.put.ensures l

pub returns-in-Store-clause-belongs : goal.returns-in-Store-clause-belongs
returns-in-Store-clause-belongs g c = acted_as c.args.self.now.board.now c.args.hand.now c.put.new.pass g.K.Runs.claimed c.requires.belongs c.args.effect c.requires.next c.put.ensures

pub overflow_cast-cell-in-Least : goal.overflow_cast-cell-in-Least
overflow_cast-cell-in-Least g c = let l = small_least c.args.self.now.board.now c.args.hand.now g.K.Runs.claimed c.requires.belongs c.args.effect _ c.requires.next c.in-Least.is c.in-Least.cell c.in-Least.value refl in omega (arith, l)

pub least-requires-clause-next : goal.least-requires-clause-next
least-requires-clause-next g c = next_as c.args.self.now.board.now c.args.hand.now g.K.Runs.claimed c.requires.belongs c.args.effect _ c.requires.next c.in-Least.is

pub returns-in-Least-clause-done : goal.returns-in-Least-clause-done
returns-in-Least-clause-done g c = λ more l. done_view c.args.self.now.board.now c.args.hand.now c.requires.belongs.0 c.args.effect more c.least.new.pass c.least.ensures l

pub returns-in-Least-clause-belongs : goal.returns-in-Least-clause-belongs
returns-in-Least-clause-belongs g c = acted_as c.args.self.now.board.now c.args.hand.now c.least.new.pass g.K.Runs.claimed c.requires.belongs c.args.effect c.requires.next c.least.ensures

pub note-requires-clause-next : goal.note-requires-clause-next
note-requires-clause-next g c = next_as c.args.self.now.board.now c.args.hand.now g.K.Runs.claimed c.requires.belongs c.args.effect _ c.requires.next c.in-Fault.is

pub returns-in-Fault-clause-done : goal.returns-in-Fault-clause-done
returns-in-Fault-clause-done g c = λ more l. done_view c.args.self.now.board.now c.args.hand.now c.requires.belongs.0 c.args.effect more c.note.new.pass c.note.ensures l

pub returns-in-Fault-clause-belongs : goal.returns-in-Fault-clause-belongs
returns-in-Fault-clause-belongs g c = acted_as c.args.self.now.board.now c.args.hand.now c.note.new.pass g.K.Runs.claimed c.requires.belongs c.args.effect c.requires.next c.note.ensures
