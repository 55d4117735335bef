-- Values by the members of lists.
use Rattle.std.specs.Prelude.{◌≡◌, ℕ, nat_lt, nat_le, Bool, true, false, List, map, Option, Some, None, slice_get}
use Rattle.std.specs.List.{All, filter, flat_map, list_any}
use Rattle.hlfir_ops.specs.declared.op.ValueId.{ValueId}
use Rattle.hlfir_ops.specs.declared.op.Op.{Op}
use Rattle.assign_schedule.specs.declared.look.Look.{Look}
use Rattle.assign_schedule.specs.declared.way.Way.{Way}
use Rattle.assign_schedule.specs.Looks.{givers_seen}
use Rattle.assign_schedule.specs.Reads.{reached_from}
use Rattle.assign_schedule.specs.Parts.{is_array_given}

-- The same numbers are in both, so whatever is asked of some member has one answer.
abbrev pub SameMembers : List ℕ → List ℕ → Type 0
SameMembers ms ns = (p : ℕ → Bool) → list_any p ms ≡ list_any p ns

-- below the bound, where there is one
abbrev pub passes : Option ℕ → ℕ → Bool
passes None n = true
passes (Some bound) n = nat_lt n bound

-- the numbers of these values, as far as they are below it
abbrev pub below : Option ℕ → List ValueId → List ℕ
below bound vs = filter (passes bound) (map (λ v. v.number) vs)

abbrev pub AllBelow : ℕ → List ℕ → Type 0
AllBelow bound ns = list_any (nat_le bound) ns ≡ false

-- The values of these numbers are whole arrays and sections.
abbrev pub AreArrays : List Op → List ℕ → Type 0
AreArrays gs ns = All (λ n. is_array_given (slice_get gs n) ≡ true) ns

-- the whole arrays and sections that are reached from the values of these numbers
abbrev pub reached_all : Way → Look → List ℕ → List ℕ
reached_all way look = flat_map (reached_from way (givers_seen look))
