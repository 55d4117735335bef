use Rattle.std.proofs.Common.{◌≡◌, ◌++◌, drop}
use Rattle.std.specs.List.{flat_map}
use Rattle.assign_schedule.specs.Looks.{givers_seen}
use Rattle.assign_schedule.specs.Saved.{item_plans}
use Rattle.assign_schedule.specs.Seen.{items_seen, steps_seen}
use Rattle.assign_schedule.proofs.planning.add_items.Given as goal

abbrev pub invariant-each : goal.invariant-each
invariant-each l =
    l.initial.plans ++ flat_map (item_plans (givers_seen l.look) (steps_seen l.steps)) (items_seen l.items) ≡
    l.plans ++ flat_map (item_plans (givers_seen l.look) (steps_seen l.steps)) (items_seen (drop l.item-index l.items))
