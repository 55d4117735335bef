use Rattle.std.proofs.Common.{◌≡◌, ◌+◌, ◌++◌, length, drop}
use Rattle.hlfir_ops.specs.Numbers.{numbers_of, numbers_in, order_of, order_in}
use Rattle.assign_schedule.specs.Items.{items_of, items_in}
use Rattle.assign_schedule.specs.Seen.{items_seen}
use Rattle.assign_schedule.proofs.walk.+walking.Given as goal

abbrev pub invariant-walk_ops-each : goal.invariant-walk_ops-each
invariant-walk_ops-each l = record {
  items : items_seen l.initial.items.items ++ items_of l.around l.fn.walk.place l.fn.walk.number l.ops ≡ items_seen l.items.items ++ items_of l.around l.next.place l.next.number (drop l.op-index l.ops);
  place : length (order_of l.ops) + l.fn.walk.place ≡ length (order_of (drop l.op-index l.ops)) + l.next.place;
  number : numbers_of l.ops + l.fn.walk.number ≡ numbers_of (drop l.op-index l.ops) + l.next.number;
}

abbrev pub invariant-walk_regions-each : goal.invariant-walk_regions-each
invariant-walk_regions-each l = record {
  items : items_seen l.initial.items.items ++ items_in l.around l.what 0 l.fn.walk.place l.fn.walk.number l.regions ≡ items_seen l.items.items ++ items_in l.around l.what l.k l.next.place l.next.number (drop l.k l.regions);
  place : length (order_in l.regions) + l.fn.walk.place ≡ length (order_in (drop l.k l.regions)) + l.next.place;
  number : numbers_in l.what 0 l.regions + l.fn.walk.number ≡ numbers_in l.what l.k (drop l.k l.regions) + l.next.number;
}
