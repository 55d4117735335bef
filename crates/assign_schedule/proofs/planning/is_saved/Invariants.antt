use Rattle.std.proofs.Common.{◌≡◌, drop}
use Rattle.assign_schedule.specs.Looks.{givers_seen}
use Rattle.assign_schedule.specs.Saved.{first_reads, is_saved}
use Rattle.assign_schedule.specs.Seen.{item_seen, steps_seen}
use Rattle.assign_schedule.specs.Steps.{user_writes}
use Rattle.assign_schedule.proofs.planning.is_saved.Given as goal

abbrev pub invariant-users : goal.invariant-users
invariant-users l =
    is_saved (givers_seen l.look) (first_reads (givers_seen l.look) (item_seen l.mask)) (user_writes (givers_seen l.look) l.mask.until (steps_seen (drop l.k l.steps))) ≡
    is_saved (givers_seen l.look) (first_reads (givers_seen l.look) (item_seen l.mask)) (user_writes (givers_seen l.look) l.mask.until (steps_seen l.steps))
