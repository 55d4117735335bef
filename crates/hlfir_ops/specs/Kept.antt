-- How the fields of a builder stand for what it holds.
use Rattle.std.specs.Prelude.{◌≡◌, ◌-◌, List, [], ◌∷◌, take, length, reverse, map}
use Rattle.hlfir_ops.specs.declared.op.Region.{Region}
use Rattle.hlfir_ops.specs.declared.entered.Entered.{Entered}
use Rattle.hlfir_ops.specs.Built.{Place, first_in, taken_around}

-- the regions before the last one, which stands for the one that is entered
abbrev pub finished : List Region → List Region
finished regions = take (length regions - 1) regions

abbrev pub place_of : Entered → Place
place_of e = record { before = e.before.items; what = e.what; line = e.line; operands = e.operands; kind = e.kind; regions = finished e.regions }

-- from the innermost one out; the builder has the innermost one last
abbrev pub places : List Entered → List Place
places entered = map place_of (reverse entered)

-- each of them, from the innermost one out, has the number of the first value in its region
abbrev pub AreNumbered : List Entered → Type 0
AreNumbered [] = Unit {0}
AreNumbered (e ∷ es) = (e.first ≡ first_in (taken_around (map place_of es)) (place_of e)) × AreNumbered es
