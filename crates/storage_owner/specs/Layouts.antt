-- Which cells belong to what.
use Rattle.std.specs.Prelude.{ℕ, suc, ◌+◌, ◌*◌, min, Bool, true, if◌then◌else◌, List, [], ◌∷◌, ◌++◌, map, replicate, Option, Some, None}
use Rattle.std.specs.List.{list_any, flat_map, sum}
use Rattle.ws_space.specs.WellFormed.{elements}
use Rattle.phase_ops.specs.declared.phase.Layout.{Layout}
use Rattle.hlfir_ops.specs.declared.kinds.Elem.TheVariants.{I32}
use Rattle.hlfir_ops.specs.declared.kinds.ValueKind.{ValueKind}
use Rattle.hlfir_ops.specs.declared.kinds.ValueKind.TheVariants as kind
use Rattle.hlfir_ops.specs.declared.what.What.{What}
use Rattle.hlfir_ops.specs.declared.what.What.TheVariants as what
use Rattle.hlfir_ops.specs.declared.op.Op.{Op, out-Op}
use Rattle.hlfir_ops.specs.declared.op.Module.{Module}
use Rattle.hlfir_ops.specs.Numbers.{order_of}
use Rattle.hlfir_ops.specs.Rules.{operand_numbers, is_in}
use Rattle.hlfir_ops.specs.RulesLimits.{size_of, temporary_limit}
use Rattle.assign_schedule.specs.declared.entry.Planned.{Planned}
use Rattle.assign_schedule.specs.Saved.{saved}
use Rattle.storage_owner.specs.declared.needs.Needs.{Needs}
use Rattle.storage_owner.specs.Ranges.{in_a_row}
use Rattle.storage_owner.specs.Groups as groups

-- ---- how many cells

-- those of a temporary, of the marks, and of what an allocatable can hold
abbrev pub most_cells : ℕ
most_cells = 65536

-- of a variable's values
abbrev pub var_cells : ValueKind → ℕ
var_cells (kind.Place e) = 1
var_cells (kind.Declared e shape) = elements shape
var_cells (kind.Allocatable e rank) = most_cells
var_cells k = 0

-- of its descriptor: whether it is allocated, and then lower bound and extent of each dimension
abbrev pub box_cells : ValueKind → ℕ
box_cells (kind.Allocatable e rank) = 1 + 2 * rank
box_cells k = 0

-- ---- variables, by the numbers of their declares

abbrev pub own_declared : What → Option ValueKind → List ValueKind
own_declared (what.Declare name) (Some k) = k ∷ []
own_declared w k = []

-- what is declared, in order
abbrev pub declared_kinds : List Op → List ValueKind
declared_kinds [] = []
declared_kinds (op ∷ ops) = own_declared (out-Op op).what (out-Op op).kind ++ declared_kinds ops

abbrev pub if_matters : Bool → ValueKind → Option ValueKind
if_matters b x = if b then Some x else None

-- Of the variables from number k on, those that matter, and None for each other.
abbrev pub only : (ℕ → Bool) → ℕ → List ValueKind → List (Option ValueKind)
only matters k [] = []
only matters k (x ∷ xs) = if_matters (matters k) x ∷ only matters (suc k) xs

abbrev pub cells_by : (ValueKind → ℕ) → Option ValueKind → ℕ
cells_by f (Some x) = f x
cells_by f None = 0

abbrev pub var_sizes : List (Option ValueKind) → List ℕ
var_sizes = map (cells_by var_cells)

abbrev pub box_sizes : List (Option ValueKind) → List ℕ
box_sizes = map (cells_by box_cells)

-- ---- layouts

abbrev pub mark_cells : Bool → ℕ
mark_cells b = if b then most_cells else 0

-- values of variables, descriptors, slots, temporaries and marks, one after the other from cell 0 on
abbrev pub rows : List ℕ → List ℕ → Needs → Layout
rows vars boxes needs = record {
  vars = in_a_row 0 vars;
  boxes = in_a_row (sum vars) boxes;
  slots = record { first = sum vars + sum boxes; cells = needs.slots };
  temps = in_a_row (sum vars + sum boxes + needs.slots) (replicate needs.temps most_cells);
  marks = record { first = sum vars + sum boxes + needs.slots + needs.temps * most_cells; cells = mark_cells needs.marks };
}

abbrev pub layout_of : List (Option ValueKind) → Needs → Layout
layout_of xs needs = rows (var_sizes xs) (box_sizes xs) needs

-- ---- of a region

-- one of these ops takes the value of this number
abbrev pub is_operand : List Op → ℕ → Bool
is_operand ops = is_in (flat_map operand_numbers ops)

-- Only variables whose declare is an operand in the region matter there.
abbrev pub region_variables : Module → ℕ → List (Option ValueKind)
region_variables m group = only (is_operand (groups.ops_inside m group)) 0 (declared_kinds m.ops)

abbrev pub region_layout : Module → ℕ → Needs → Layout
region_layout m group needs = layout_of (region_variables m group) needs

-- ---- outside regions

-- Values of stage 1 take 9 cells at most for an op and 1 for an operand, and what a step finds out about its shape less than 16. A statement outside
-- regions has at most 65,536 ops and operands inside it.
abbrev pub module_slots : List Op → ℕ
module_slots ops = 16 * min (size_of (order_of ops)) 131072

abbrev pub has_check : List Planned → Bool
has_check = list_any (λ (p : Planned). p.dup)

-- Some target needs a check for elements that are named twice.
abbrev pub checks_targets : Module → Bool
checks_targets m = has_check (saved m).steps

abbrev pub module_needs : Module → Needs
module_needs m = record { temps = temporary_limit; slots = module_slots m.ops; marks = checks_targets m }

abbrev pub module_variables : Module → List (Option ValueKind)
module_variables m = only (λ n. true) 0 (declared_kinds m.ops)

abbrev pub module_layout : Module → Layout
module_layout m = layout_of (module_variables m) (module_needs m)
