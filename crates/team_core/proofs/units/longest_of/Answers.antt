use Rattle.std.proofs.Common.{arith}
use Rattle.team_core.proofs.Lengths.{all_short}
use Rattle.team_core.proofs.units.longest_of.Goals as goal

pub returns-clause-all : goal.returns-clause-all
returns-clause-all c = all_short c.args.acts.now c.loop-act.longest (λ k l. c.loop-act.invariant.all k (omega (arith, l)))
