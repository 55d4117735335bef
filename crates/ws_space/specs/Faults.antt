-- Where a fault comes: its line, and the number of its element.
use Rattle.std.specs.Prelude.{ℕ, suc, List, slice_index, Result, Ok, Err}
use Rattle.ws_base.specs.declared.fault.FaultName.{FaultName}
use Rattle.ws_base.specs.declared.fault.FaultName.TheVariants.{Shape as Shape'}
use Rattle.ws_base.specs.declared.fault.Fault.{Fault}
use Rattle.ws_base.specs.Outcomes.{Staged, later}

-- the line of an operation, and that of every Shape fault of its step
abbrev pub fault_line : ℕ → ℕ → FaultName → ℕ
fault_line line shape_line Shape' = shape_line
fault_line line shape_line name = line

-- an operation that has one value for its whole step
abbrev pub at_lines : {A : Type 0} → ℕ → ℕ → Staged A → Result A Fault
at_lines line shape_line (Ok x) = Ok x
at_lines line shape_line (Err t) = Err (record { line = fault_line line shape_line t.name; name = t.name; element = t.element })

abbrev pub at_line : {A : Type 0} → ℕ → Staged A → Result A Fault
at_line line = at_lines line line

-- operations over a list of places: the element at a place has the number after it
abbrev pub at_places : {A : Type 0} → ℕ → List ℕ → Staged A → Result A Fault
at_places line places (Ok x) = Ok x
at_places line places (Err t) = Err (record { line = line; name = t.name; element = suc (slice_index places t.element) })

-- operations over all places: elements count from 1
abbrev pub over_all_places : {A : Type 0} → Staged A → Staged A
over_all_places (Ok x) = Ok x
over_all_places (Err t) = Err (later t)
