use Rattle.std.proofs.Common.{◌≡◌, ◌++◌, drop}
use Rattle.assign_schedule.specs.Seen.{items_seen, steps_seen}
use Rattle.assign_schedule.specs.Steps.{steps_of}
use Rattle.assign_schedule.proofs.Stepped.{with_begun}
use Rattle.assign_schedule.proofs.steps.steps_of.Given as goal

abbrev pub invariant-each : goal.invariant-each
invariant-each l = steps_seen l.steps.items ++ with_begun (items_seen l.begun) (steps_of (items_seen (drop l.k l.items))) ≡ steps_of (items_seen l.items)
