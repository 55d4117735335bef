use Rattle.std.proofs.Common.{◌≡◌, drop, map}
use Rattle.std.specs.Prelude.{bytes_eq}
use Rattle.list_io.specs.Items as items
use Rattle.list_io.proofs.reading.has_letters.Given as goal

abbrev pub invariant-loop-i : goal.invariant-loop-i
invariant-loop-i l = bytes_eq (drop l.i l.letters) (map items.lower_case (drop l.i l.word)) ≡ bytes_eq l.letters (map items.lower_case l.word)
