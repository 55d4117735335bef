use Rattle.std.proofs.Common.{◌++◌}
use Rattle.assign_schedule.specs.Looks.{givers_seen}
use Rattle.assign_schedule.specs.Wanted.{SameMembers, AreArrays, reached_all}
use Rattle.assign_schedule.proofs.Wanting.{top}
use Rattle.assign_schedule.proofs.reach.reached.Given as goal

abbrev pub invariant-wanted : goal.invariant-wanted
invariant-wanted l = record {
  members : SameMembers (l.found.items ++ reached_all l.way l.look l.wanted.keys) (reached_all l.way l.look l.initial.wanted.keys);
  arrays : AreArrays (givers_seen l.look) l.found.items;
}

abbrev pub decreases-wanted : goal.decreases-wanted
decreases-wanted l = top l.wanted.keys
