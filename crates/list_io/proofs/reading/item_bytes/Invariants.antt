use Rattle.std.proofs.Common.{◌≡◌, ◌++◌, take, drop}
use Rattle.list_io.specs.Items as items
use Rattle.list_io.proofs.reading.item_bytes.Given as goal

abbrev pub invariant-loop-i : goal.invariant-loop-i
invariant-loop-i l = take l.i l.text ++ items.item_bytes (drop l.i l.text) ≡ items.item_bytes l.text
