-- What regions hold and yield.
use Rattle.std.specs.Prelude.{ℕ, ◌-◌, ◌*◌, ◌%◌, ◌==◌, nat_lt, Bool, true, false, not, ◌&&◌, ◌||◌, List, [], ◌∷◌, length, take, Option, Some, None, slice_get, if◌then◌else◌}
use Rattle.std.specs.List.{list_all, list_any}
use Rattle.ws_base.specs.declared.name.Name.{Name}
use Rattle.hlfir_ops.specs.declared.kinds.Elem.TheVariants.{I32, I1}
use Rattle.hlfir_ops.specs.declared.kinds.ValueKind.{ValueKind}
use Rattle.hlfir_ops.specs.declared.kinds.ValueKind.TheVariants.{Scalar}
use Rattle.hlfir_ops.specs.declared.what.What.{What}
use Rattle.hlfir_ops.specs.declared.op.ValueId.{ValueId}
use Rattle.hlfir_ops.specs.declared.op.Op.{Op, out-Op}
use Rattle.hlfir_ops.specs.declared.op.Region.{Region, out-Region}
pub use Rattle.hlfir_ops.specs.Sorts.{is_yield, is_yield_element, is_apply, is_operation, is_value_op}
use Rattle.hlfir_ops.specs.RulesValues.{Value, value_at, kind_of, kind_at, is_scalar, is_place, is_target, is_vector_designate}

-- ---- the ops of regions

abbrev pub ops_of : Option Region → List Op
ops_of (Some region) = (out-Region region).ops
ops_of None = []

-- the ops of the region of this number, and none where there is no such region
abbrev pub ops_in : List Region → ℕ → List Op
ops_in regions k = ops_of (slice_get regions k)

-- ---- sorts of ops

abbrev pub gives_value : Op → Bool
gives_value op = is_value_op (out-Op op).what

abbrev pub applies : Op → Bool
applies op = is_apply (out-Op op).what

abbrev pub operates : Op → Bool
operates op = is_operation (out-Op op).what

abbrev pub works_on_elements : Op → Bool
works_on_elements op = applies op || operates op

-- ---- what the last op yields

abbrev pub last_of : List Op → Option Op
last_of ops = slice_get ops (length ops - 1)

abbrev pub front_of : List Op → List Op
front_of ops = take (length ops - 1) ops

abbrev pub is_last : (What → Bool) → Option Op → Bool
is_last test (Some op) = test (out-Op op).what
is_last test None = false

abbrev pub parts_of : Option Op → List ValueId
parts_of (Some op) = if is_yield (out-Op op).what || is_yield_element (out-Op op).what then (out-Op op).operands else []
parts_of None = []

-- the values that these ops yield, from left to right
abbrev pub parts : List Op → List ValueId
parts ops = parts_of (last_of ops)

abbrev pub parts_in : List Region → ℕ → List ValueId
parts_in regions k = parts (ops_in regions k)

abbrev pub first_value : List Value → List ValueId → Option Value
first_value vs (v ∷ more) = value_at vs v
first_value vs [] = None

abbrev pub first_kind : List Value → List ValueId → Option ValueKind
first_kind vs ps = kind_of (first_value vs ps)

-- ---- yields of the stated forms

-- value ops, and last the one yield
abbrev pub yields : List Op → Bool
yields ops = is_last is_yield (last_of ops) && list_all gives_value (front_of ops)

abbrev pub yields_one : List Op → Bool
yields_one ops = yields ops && length (parts ops) == 1

-- a value, and no place
abbrev pub yields_value : List Value → List Op → Bool
yields_value vs ops = yields_one ops && not (is_place (first_kind vs (parts ops)))

-- what an assignment fills
abbrev pub yields_target : List Value → List Op → Bool
yields_target vs ops = yields_one ops && is_target (first_kind vs (parts ops))

-- what a READ fills, which has no vector subscript
abbrev pub yields_item : List Value → List Op → Bool
yields_item vs ops = yields_target vs ops && not (is_vector_designate (first_value vs (parts ops)))

-- the mask of a FORALL
abbrev pub yields_truth : List Value → List Op → Bool
yields_truth vs ops = yields_one ops && is_scalar I1 (first_kind vs (parts ops))

abbrev pub is_integer : List Value → ValueId → Bool
is_integer vs v = is_scalar I32 (kind_at vs v)

abbrev pub yields_integers : List Value → List Op → Bool
yields_integers vs ops = yields ops && list_all (is_integer vs) (parts ops)

-- the header of a FORALL, which has a triplet for each name
abbrev pub yields_header : List Value → List Name → List Op → Bool
yields_header vs names ops = yields_integers vs ops && nat_lt 0 (length names) && length (parts ops) == length names * 3

-- the bounds and the stride of a DO
abbrev pub yields_triplet : List Value → List Op → Bool
yields_triplet vs ops = yields_integers vs ops && length (parts ops) == 3

-- the bounds of an ALLOCATE, in pairs
abbrev pub yields_pairs : List Value → List Op → Bool
yields_pairs vs ops = yields_integers vs ops && length (parts ops) % 2 == 0

abbrev pub is_any_scalar : Option ValueKind → Bool
is_any_scalar (Some (Scalar e)) = true
is_any_scalar _ = false

-- The body of an elemental applies arrays and works on their elements.
abbrev pub yields_element : List Value → List Op → Bool
yields_element vs ops =
    is_last is_yield_element (last_of ops) && list_all works_on_elements (front_of ops) && list_any applies (front_of ops) && list_any operates (front_of ops)
    && length (parts ops) == 1 && is_any_scalar (first_kind vs (parts ops))
