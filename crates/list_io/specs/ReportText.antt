-- The report of a run: a line for each variable, or the line of the fault that ended it.
use Rattle.std.specs.Prelude.{ℕ, Bool, true, false, List, [], ◌∷◌, ◌++◌, ℤ, if◌then◌else◌, codes, decimal}
use Rattle.std.specs.List.{flat_map}
use Rattle.std.specs.Fmt.{signed_decimal}
use Rattle.ws_base.specs.declared.fault.Fault.{Fault}
use Rattle.ws_base.specs.Numbers.{is_true}
use Rattle.ws_base.specs.Words.{fault_name}
use Rattle.ws_space.specs.Shapes.{dims, upper}
use Rattle.ws_space.specs.declared.shape.Dim.{Dim}
use Rattle.ws_space.specs.declared.state.VarState.{VarState}
use Rattle.ws_space.specs.declared.state.VarState.TheVariants as state
use Rattle.ws_space.specs.declared.state.Var.{Var}
use Rattle.ws_space.specs.declared.state.State.{State}
use Rattle.ws_space.specs.declared.state.Ended.{Ended}
use Rattle.ws_space.specs.declared.state.Ended.TheVariants.{Done, Faulted}

-- a LOGICAL value, or an INTEGER one
abbrev pub value_text : Bool → ℤ → List ℕ
value_text true v = if is_true v then codes "T" else codes "F"
value_text false v = signed_decimal v

-- a value after a blank
abbrev pub item_text : Bool → ℤ → List ℕ
item_text truth v = codes " " ++ value_text truth v

-- the bounds of a dimension
abbrev pub dim_text : Dim → List ℕ
dim_text d = signed_decimal d.lower ++ codes ":" ++ signed_decimal (upper d)

-- the bounds of all dimensions, with commas between them
abbrev pub dims_text : List Dim → List ℕ
dims_text [] = []
dims_text (d ∷ []) = dim_text d
dims_text (d ∷ e ∷ ds) = dim_text d ++ codes "," ++ dims_text (e ∷ ds)

-- what follows the name
abbrev pub state_text : Bool → VarState → List ℕ
state_text truth (state.Scalar v) = codes " =" ++ item_text truth v
state_text truth (state.Array a) = codes "(" ++ dims_text (dims a.shape) ++ codes ") =" ++ flat_map (item_text truth) a.values
state_text truth (state.Unallocated r) = codes " unallocated"

abbrev pub var_line : Var → List ℕ
var_line var = var.name ++ state_text var.truth var.state ++ codes "\n"

-- one line for each variable, in order of declaration
abbrev pub variables_text : State → List ℕ
variables_text s = flat_map var_line s.vars

-- the line of a fault
abbrev pub fault_text : Fault → List ℕ
fault_text f = codes "fault " ++ fault_name f.name ++ codes " line " ++ decimal f.line ++ codes " element " ++ decimal f.element ++ codes "\n"

abbrev pub report_text : Ended → List ℕ
report_text (Done s) = variables_text s
report_text (Faulted f) = fault_text f
