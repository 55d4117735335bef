use Rattle.std.proofs.Common.{◌++◌, None, take}
use Rattle.std.specs.List.{flat_map}
use Rattle.assign_schedule.specs.Looks.{givers_seen}
use Rattle.assign_schedule.specs.Reads.{subscripts_of}
use Rattle.assign_schedule.specs.Wanted.{SameMembers, below}
use Rattle.assign_schedule.proofs.harm.want_subscripts.Given as goal

abbrev pub invariant-each : goal.invariant-each
invariant-each l = SameMembers l.start.keys (l.initial.start.keys ++ below None (flat_map (subscripts_of (givers_seen l.look)) (take l.n-index l.numbers)))
