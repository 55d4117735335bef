use Rattle.std.proofs.Common.{sym}
use Rattle.step_eval.proofs.Variables.{place_found}
use Rattle.step_eval.proofs.vars.place_of.Goals as goal

pub returns-then-eq : goal.returns-then-eq
returns-then-eq c = place_found c.args.vars.now c.args.name.now c.loop-i.i c.index-vars-i.result c.loop-i-test.true c.index-vars-i.is (sym c.if-eq.ensures) c.loop-i.invariant
