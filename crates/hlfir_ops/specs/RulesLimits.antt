-- The limits on a module, taken over its ops.
use Rattle.std.specs.Prelude.{ℕ, suc, ◌+◌, ◌==◌, nat_le, max, Bool, true, false, ◌&&◌, List, [], ◌∷◌, length, Option, Some, if◌then◌else◌}
use Rattle.ws_space.specs.declared.shape.Shape.{Shape}
use Rattle.ws_space.specs.WellFormed.{elements}
use Rattle.hlfir_ops.specs.declared.kinds.ValueKind.{ValueKind}
use Rattle.hlfir_ops.specs.declared.kinds.ValueKind.TheVariants.{Declared, Allocatable}
use Rattle.hlfir_ops.specs.declared.what.What.{What}
use Rattle.hlfir_ops.specs.declared.op.ValueId.{ValueId}
use Rattle.hlfir_ops.specs.declared.op.Op.{Op, out-Op}
pub use Rattle.hlfir_ops.specs.Sorts.{has_body, Adds, AddsNothing, AddsMask, AddsElseMask, AddsAssignment, AddsHeader, AddsReduction, AddsWholes}
use Rattle.hlfir_ops.specs.Sorts.{sort_of}
use Rattle.hlfir_ops.specs.RulesValues.{Value, value_at, is_whole}
use Rattle.hlfir_ops.specs.Numbers.{order_in}
use Rattle.hlfir_ops.specs.RulesStatements.{declares}

-- ---- declares, vectors and bodies

abbrev pub body_limit : ℕ
body_limit = 65

abbrev pub declare_limit : ℕ
declare_limit = 64

abbrev pub declares_in : List Op → ℕ
declares_in [] = 0
declares_in (op ∷ ops) = (if declares op then 1 else 0) + declares_in ops

abbrev pub rank_limit : ℕ
rank_limit = 3

abbrev pub element_limit : ℕ
element_limit = 65536

abbrev pub is_small_shape : Shape → Bool
is_small_shape shape = nat_le shape.rank rank_limit && nat_le (elements shape) element_limit

abbrev pub is_small : Option ValueKind → Bool
is_small (Some (Declared e shape)) = is_small_shape shape
is_small (Some (Allocatable e rank)) = nat_le rank rank_limit
is_small _ = true

abbrev pub item_limit : ℕ
item_limit = 256

-- ---- how large a statement is: the ops inside it and their operands

abbrev pub size_limit : ℕ
size_limit = 65536

abbrev pub size_of : List Op → ℕ
size_of [] = 0
size_of (op ∷ ops) = suc (length (out-Op op).operands) + size_of ops

-- ---- phases and temporaries

-- What is counted of a statement up to some op in printed order. `phases` are those of the steps that have ended, with what the step that has not ended
-- adds to 6. `temporaries` is the greatest number that a step has given. `masks` and `held` are the masks and the vector subscripts evaluated whole in them,
-- and `pending` the reductions and the other vector subscripts evaluated whole of the step. `begun` says that something of the step stands before,
-- `assigned` that its assignment does, and `masked` that the op stands in a mask.
pub record Count : Type 0 where
  pub phases : ℕ
  pub temporaries : ℕ
  pub masks : ℕ
  pub held : ℕ
  pub pending : ℕ
  pub begun : Bool
  pub assigned : Bool
  pub masked : Bool

abbrev pub nothing : Count
nothing = record { phases = 0; temporaries = 0; masks = 0; held = 0; pending = 0; begun = false; assigned = false; masked = false }

-- A step ends. Each adds 6 phases, and gives 2 temporaries, one for each mask of its construct so far, and those of its reductions and vector subscripts.
abbrev pub ended : Count → Count
ended c = record c { phases = 6 + c.phases; temporaries = max c.temporaries (2 + (c.masks + (c.held + c.pending))); pending = 0; begun = false; assigned = false }

-- A new mask, an assignment or a header stands after the assignment of the step before it.
abbrev pub after_assignment : Count → Count
after_assignment c = if c.assigned then ended c else c

abbrev pub with_mask : Count → Count
with_mask c = record c { phases = 1 + c.phases; masks = 1 + c.masks; begun = true; masked = true }

abbrev pub with_assignment : Count → Count
with_assignment c = record c { begun = true; assigned = true; masked = false }

abbrev pub with_header : Count → Count
with_header c = record c { begun = true; masked = false }

abbrev pub with_reduction : Count → Count
with_reduction c = record c { phases = 3 + c.phases; pending = 1 + c.pending; begun = true }

abbrev pub with_whole : Count → Count
with_whole c = if c.masked then record c { phases = 2 + c.phases; held = 1 + c.held; begun = true } else record c { phases = 2 + c.phases; pending = 1 + c.pending; begun = true }

-- The operands of a designate that are vector subscripts evaluated whole. Only a vector subscript may be an array.
abbrev pub with_wholes : List Value → Count → List ValueId → Count
with_wholes vs c [] = c
with_wholes vs c (v ∷ more) = with_wholes vs (if is_whole (value_at vs v) then with_whole c else c) more

abbrev pub adds_of : What → Adds
adds_of w = (sort_of w).adds

abbrev pub with_added : List Value → Count → Adds → List ValueId → ℕ → Count
with_added vs c AddsNothing os regions = c
with_added vs c AddsMask os regions = with_mask (after_assignment c)
with_added vs c AddsElseMask os regions = if regions == 1 then c else with_mask (after_assignment c)
with_added vs c AddsAssignment os regions = with_assignment (after_assignment c)
with_added vs c AddsHeader os regions = with_header (after_assignment c)
with_added vs c AddsReduction os regions = with_reduction c
with_added vs c AddsWholes os regions = with_wholes vs c os

abbrev pub counted_as : List Value → Count → What → List ValueId → ℕ → Count
counted_as vs c w os regions = with_added vs c (adds_of w) os regions

abbrev pub counted : List Value → Count → Op → Count
counted vs c op = counted_as vs c (out-Op op).what (out-Op op).operands (length (out-Op op).regions)

abbrev pub counted_all : List Value → Count → List Op → Count
counted_all vs c [] = c
counted_all vs c (op ∷ ops) = counted_all vs (counted vs c op) ops

-- a statement: its op and those inside it
abbrev pub statement_count : List Value → Op → Count
statement_count vs op = let c = counted_all vs (counted vs nothing op) (order_in (out-Op op).regions) in if c.begun then ended c else c

-- the expressions of one region, which are one step
abbrev pub step_count : List Value → List Op → Count
step_count vs ops = ended (counted_all vs nothing ops)

abbrev pub phase_limit : ℕ
phase_limit = 512

abbrev pub temporary_limit : ℕ
temporary_limit = 64

abbrev pub fits_count : ℕ → ℕ → Bool
fits_count phases temporaries = nat_le phases phase_limit && nat_le temporaries temporary_limit

abbrev pub phases_of : List Value → List Op → ℕ
phases_of vs [] = 0
phases_of vs (op ∷ ops) = (statement_count vs op).phases + phases_of vs ops

abbrev pub temporaries_of : List Value → List Op → ℕ
temporaries_of vs [] = 0
temporaries_of vs (op ∷ ops) = max (statement_count vs op).temporaries (temporaries_of vs ops)
