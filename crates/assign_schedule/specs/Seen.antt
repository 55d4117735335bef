-- What the code's items stand for.
use Rattle.std.specs.Prelude.{List, map}
use Rattle.assign_schedule.specs.declared.item.Item.{Item}
use Rattle.assign_schedule.specs.Items as items

abbrev pub item_seen : Item → items.Item
item_seen i = record { op = i.op.now; place = i.place; begins = i.begins; until = i.until; header = i.header }

abbrev pub items_seen : List Item → List items.Item
items_seen = map item_seen

abbrev pub steps_seen : List (List Item) → List (List items.Item)
steps_seen = map items_seen
