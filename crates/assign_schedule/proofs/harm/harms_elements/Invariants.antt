use Rattle.std.proofs.Common.{◌≡◌, drop}
use Rattle.std.specs.List.{flat_map, list_any}
use Rattle.assign_schedule.specs.Harms.{harms_read}
use Rattle.assign_schedule.specs.Looks.{givers_seen}
use Rattle.assign_schedule.specs.Reads.{element_read}
use Rattle.assign_schedule.proofs.harm.harms_elements.Given as goal

abbrev pub invariant-each : goal.invariant-each
invariant-each l =
    list_any (harms_read (givers_seen l.look) l.again l.target) (flat_map (element_read (givers_seen l.look)) (drop l.v-index l.vs)) ≡
    list_any (harms_read (givers_seen l.look) l.again l.target) (flat_map (element_read (givers_seen l.look)) l.vs)
