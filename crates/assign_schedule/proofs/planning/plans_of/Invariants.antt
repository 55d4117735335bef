use Rattle.std.proofs.Common.{◌≡◌, ◌++◌, drop}
use Rattle.assign_schedule.specs.Looks.{givers_seen}
use Rattle.assign_schedule.specs.Saved.{plans_of}
use Rattle.assign_schedule.specs.Seen.{steps_seen}
use Rattle.assign_schedule.proofs.planning.plans_of.Given as goal

abbrev pub invariant-each : goal.invariant-each
invariant-each l = l.plans ++ plans_of (givers_seen l.look) (steps_seen (drop l.k l.steps)) ≡ plans_of (givers_seen l.look) (steps_seen l.steps)
