-- Variables and parts of them.
use Rattle.std.specs.Prelude.{◌≡◌, ℕ, Bool, true, false, ◌||◌, List, length, Option, Some, None, slice_get}
use Rattle.hlfir_ops.specs.declared.kinds.ValueKind.{ValueKind}
use Rattle.hlfir_ops.specs.declared.what.What.{What}
use Rattle.hlfir_ops.specs.declared.what.What.TheVariants as what
use Rattle.hlfir_ops.specs.declared.op.Op.{Op, out-Op}
use Rattle.hlfir_ops.specs.RulesValues.{is_place, is_reference, is_section}
use Rattle.alias_test.specs.Normal.{designator_at}

-- a whole array, or a section
abbrev pub is_array_by : What → Option ValueKind → Bool
is_array_by (what.Declare name) k = is_reference k
is_array_by what.Boxed k = is_reference k
is_array_by (what.Designate subs) k = is_section k
is_array_by w k = false

abbrev pub is_array_given : Option Op → Bool
is_array_given (Some op) = is_array_by (out-Op op).what (out-Op op).kind
is_array_given None = false

-- A place that a designate gives is an element of an array. One that a declare gives is a scalar variable.
abbrev pub is_element_by : What → Option ValueKind → Bool
is_element_by (what.Designate subs) k = is_place k
is_element_by w k = false

abbrev pub is_element_given : Option Op → Bool
is_element_given (Some op) = is_element_by (out-Op op).what (out-Op op).kind
is_element_given None = false

-- an array, a section or an element
abbrev pub is_part_of_array : Option Op → Bool
is_part_of_array giver = is_array_given giver || is_element_given giver

-- the value of this number, which one of these ops gives
abbrev pub IsPart : List Op → ℕ → Type 0
IsPart gs n = is_part_of_array (slice_get gs n) ≡ true

-- Designators of one variable have equally many forms.
abbrev pub HaveOneRank : List Op → Type 0
HaveOneRank gs = (m n : ℕ) → IsPart gs m → IsPart gs n → (designator_at gs m).var ≡ (designator_at gs n).var → length (designator_at gs m).forms ≡ length (designator_at gs n).forms
