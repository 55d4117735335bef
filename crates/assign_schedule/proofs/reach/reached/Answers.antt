use Rattle.std.proofs.Common.{ap, arith}
use Rattle.assign_schedule.proofs.Wanting.{keys_low, top, top_low, top_last}
use Rattle.assign_schedule.proofs.reach.reached.Goals as goal

pub visit-requires-clause-below : goal.visit-requires-clause-below
visit-requires-clause-below c = keys_low c.in-Some.n c.pop_last.new.self.keys c.in-Some.ensures.all_below

pub wanted-smaller : goal.wanted-smaller
wanted-smaller c = omega (arith, top_low c.in-Some.n c.visit.new.wanted.keys c.in_ok-visit.ensures.below, top_last c.in-Some.n c.pop_last.new.self.keys, ap top c.in-Some.ensures.removal)
