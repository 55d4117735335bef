use Rattle.std.proofs.Common.{◌++◌, take}
use Rattle.assign_schedule.specs.Wanted.{SameMembers, below}
use Rattle.assign_schedule.proofs.reach.want.Given as goal

abbrev pub invariant-each : goal.invariant-each
invariant-each l = SameMembers l.wanted.keys (l.initial.wanted.keys ++ below l.bound (take l.v-index l.vs))
