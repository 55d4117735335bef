use Rattle.std.proofs.Common.{◌≡◌, drop}
use Rattle.list_io.specs.Items as items
use Rattle.list_io.proofs.reading.after_line.Given as goal

abbrev pub invariant-loop-i : goal.invariant-loop-i
invariant-loop-i l = items.after_line (drop l.i l.text) ≡ items.after_line l.text
