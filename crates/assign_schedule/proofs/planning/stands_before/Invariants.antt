use Rattle.std.proofs.Common.{◌≡◌, drop}
use Rattle.assign_schedule.specs.Seen.{items_seen}
use Rattle.assign_schedule.specs.Steps.{stands_before}
use Rattle.assign_schedule.proofs.planning.stands_before.Given as goal

abbrev pub invariant-each : goal.invariant-each
invariant-each l = stands_before l.until (items_seen (drop l.item-index l.step)) ≡ stands_before l.until (items_seen l.step)
