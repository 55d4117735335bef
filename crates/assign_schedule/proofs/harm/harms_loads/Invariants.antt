use Rattle.std.proofs.Common.{◌≡◌, drop}
use Rattle.std.specs.List.{list_any}
use Rattle.assign_schedule.specs.Harms.{harms_read}
use Rattle.assign_schedule.specs.Looks.{givers_seen}
use Rattle.assign_schedule.specs.Reads.{element_reads}
use Rattle.assign_schedule.proofs.harm.harms_loads.Given as goal

abbrev pub invariant-each : goal.invariant-each
invariant-each l =
    list_any (harms_read (givers_seen l.look) l.again l.target) (element_reads (givers_seen l.look) (drop l.op-index l.ops)) ≡
    list_any (harms_read (givers_seen l.look) l.again l.target) (element_reads (givers_seen l.look) l.ops)
