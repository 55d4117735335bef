use Rattle.std.proofs.Common.{◌≡◌, drop}
use Rattle.assign_schedule.specs.Looks.{givers_seen}
use Rattle.assign_schedule.specs.Seen.{items_seen}
use Rattle.assign_schedule.specs.Steps.{write_of}
use Rattle.assign_schedule.proofs.writes.write_of.Given as goal

abbrev pub invariant-each : goal.invariant-each
invariant-each l = write_of (givers_seen l.look) (items_seen (drop l.item-index l.step)) ≡ write_of (givers_seen l.look) (items_seen l.step)
