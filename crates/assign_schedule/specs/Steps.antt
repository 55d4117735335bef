-- Steps: an assignment with the masks that stand before it and belong to no step before.
use Rattle.std.specs.Prelude.{ℕ, nat_lt, Bool, false, ◌||◌, if◌then◌else◌, List, [], ◌∷◌, Option, Some, None, slice_get}
use Rattle.std.specs.List.{list_any}
use Rattle.hlfir_ops.specs.declared.op.ValueId.{ValueId}
use Rattle.hlfir_ops.specs.declared.op.Op.{Op, out-Op}
use Rattle.hlfir_ops.specs.RulesRegions.{parts_in}
use Rattle.hlfir_ops.specs.RulesStatements.{assigns}
use Rattle.assign_schedule.specs.Parts.{is_part_of_array}
use Rattle.assign_schedule.specs.Items.{Item}

abbrev pub begins_next : List Item → Bool
begins_next [] = false
begins_next (i ∷ is) = i.begins

-- An item ends its step where it assigns, and where the next outermost statement begins.
abbrev pub ends_before : List Item → Item → Bool
ends_before is i = assigns i.op || begins_next is

abbrev pub with_first : Item → List (List Item) → List (List Item)
with_first i [] = (i ∷ []) ∷ []
with_first i (s ∷ ss) = (i ∷ s) ∷ ss

abbrev pub steps_of : List Item → List (List Item)
steps_of [] = []
steps_of (i ∷ is) = if ends_before is i then (i ∷ []) ∷ steps_of is else with_first i (steps_of is)

-- ---- what a step writes

-- the value that is assigned to, where that is an array, a section or an element
abbrev pub written : List Op → List ValueId → Option ValueId
written gs [] = None
written gs (v ∷ vs) = if is_part_of_array (slice_get gs v.number) then Some v else None

-- the left side of an assignment
abbrev pub target_of : List Op → Op → Option ValueId
target_of gs op = written gs (parts_in (out-Op op).regions 1)

-- A step without an assignment writes nothing, and so does one that assigns to a scalar variable.
abbrev pub write_of : List Op → List Item → Option ValueId
write_of gs [] = None
write_of gs (i ∷ is) = if assigns i.op then target_of gs i.op else write_of gs is

-- ---- the users of a mask whose where or forall ends before this place

-- The assignment or a new mask of the step stands in it.
abbrev pub stands_before : ℕ → List Item → Bool
stands_before until = list_any (λ i. nat_lt i.place until)

-- The next one of these steps stands in it.
abbrev pub is_followed : ℕ → List (List Item) → Bool
is_followed until [] = false
is_followed until (s ∷ ss) = stands_before until s

-- What the steps that stand in it write. They follow one another.
abbrev pub later_writes : List Op → ℕ → List (List Item) → List (Option ValueId)
later_writes gs until [] = []
later_writes gs until (s ∷ ss) = if stands_before until s then write_of gs s ∷ later_writes gs until ss else []

-- The mask's own step, which is the first one of these, uses it too.
abbrev pub user_writes : List Op → ℕ → List (List Item) → List (Option ValueId)
user_writes gs until [] = []
user_writes gs until (own ∷ later) = write_of gs own ∷ later_writes gs until later
