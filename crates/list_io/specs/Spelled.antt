-- What an item spells, as far as a default integer holds it.
use Rattle.std.specs.Prelude.{ℕ, ◌≤◌, ⊤, nat_le, if◌then◌else◌, Option, Some, None, ℤ}
use Rattle.ws_base.specs.Numbers.{in_range, default_half}
use Rattle.list_io.specs.declared.item.Item.{Item}
use Rattle.list_io.specs.declared.item.Item.TheVariants as item

-- a magnitude that a default integer may have
abbrev pub up_to_limit : Option ℕ → Option ℕ
up_to_limit None = None
up_to_limit (Some n) = if nat_le n default_half then Some n else None

abbrev pub of_the_kind : Option ℤ → Option ℤ
of_the_kind None = None
of_the_kind (Some z) = if in_range default_half z then Some z else None

-- the place after an item is no greater than this one
abbrev pub EndsWithin : ℕ → Item → Type 0
EndsWithin last (item.Number z end) = end ≤ last
EndsWithin last (item.Truth b end) = end ≤ last
EndsWithin last _ = ⊤
