use Rattle.std.proofs.Common.{◌++◌, take}
use Rattle.std.specs.List.{flat_map}
use Rattle.assign_schedule.specs.Reads.{applied}
use Rattle.assign_schedule.specs.Wanted.{SameMembers, below}
use Rattle.assign_schedule.proofs.reach.want_applied.Given as goal

abbrev pub invariant-each : goal.invariant-each
invariant-each l = SameMembers l.wanted.keys (l.initial.wanted.keys ++ below l.bound (flat_map applied (take l.op-index l.ops)))
