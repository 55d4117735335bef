-- How cells stand for a state, over any layout that has room for the variables that matter.
use Rattle.std.specs.Prelude.{◌≡◌, ℕ, zero, suc, ◌+◌, ◌<◌, ◌≤◌, Bool, true, false, List, [], ◌∷◌, length, slice_index, slice_index_or, Option, Some, None, ℤ, pos, bytes_eq}
use Rattle.ws_space.specs.declared.shape.Dim.{Dim}
use Rattle.ws_space.specs.declared.state.ArrayValue.{ArrayValue}
use Rattle.ws_space.specs.declared.state.VarState.{VarState}
use Rattle.ws_space.specs.declared.state.VarState.TheVariants as state
use Rattle.ws_space.specs.declared.state.Var.{Var}
use Rattle.ws_space.specs.Shapes.{dims}
use Rattle.ws_space.specs.Values.{value_at}
use Rattle.ws_space.specs.WellFormed.{IsArray, IsHeld}
use Rattle.phase_ops.specs.declared.phase.Range.{Range}
use Rattle.phase_ops.specs.declared.phase.Layout.{Layout}
use Rattle.phase_ops.specs.Phases.{Cells, cell_value}
use Rattle.phase_ops.specs.Free.{In}
use Rattle.hlfir_ops.specs.declared.kinds.Elem.{Elem}
use Rattle.hlfir_ops.specs.declared.kinds.Elem.TheVariants.{I32, I1}
use Rattle.hlfir_ops.specs.declared.kinds.ValueKind.{ValueKind}
use Rattle.hlfir_ops.specs.declared.kinds.ValueKind.TheVariants as kind
use Rattle.storage_owner.specs.Ranges.{range_at, HasCell}
use Rattle.storage_owner.specs.Layouts.{var_cells, box_cells}

-- ---- variables that matter, by the numbers of their declares

-- the kind of each declare
abbrev pub kind_of : List ValueKind → ℕ → ValueKind
kind_of kinds n = slice_index_or kinds n (kind.Scalar I32)

-- the numbers of those that matter, from number k on
abbrev pub numbers_from : ℕ → List (Option ValueKind) → List ℕ
numbers_from k [] = []
numbers_from k (Some x ∷ xs) = k ∷ numbers_from (suc k) xs
numbers_from k (None ∷ xs) = numbers_from (suc k) xs

-- ---- room

-- what owns cells: a variable or its descriptor
pub data Owner : Type 0 where
  of_var : ℕ → Owner
  of_box : ℕ → Owner

abbrev pub number_of : Owner → ℕ
number_of (of_var n) = n
number_of (of_box n) = n

abbrev pub owned : Layout → Owner → Range
owned l (of_var n) = range_at l.vars n
owned l (of_box n) = range_at l.boxes n

-- The layout has cells enough for each of these variables, which no other of them owns, and of which each is one of so many.
pub record HasRoom (l : Layout) (kinds : ℕ → ValueKind) (vs : List ℕ) (cells : ℕ) : Type 0 where
  pub vars : (n : ℕ) → In n vs → var_cells (kinds n) ≤ (range_at l.vars n).cells
  pub boxes : (n : ℕ) → In n vs → box_cells (kinds n) ≤ (range_at l.boxes n).cells
  pub there : (o : Owner) (c : ℕ) → In (number_of o) vs → HasCell (owned l o) c → c < cells
  pub apart : (o p : Owner) (c : ℕ) → In (number_of o) vs → In (number_of p) vs → HasCell (owned l o) c → HasCell (owned l p) c → o ≡ p

-- none of these variables owns the cell
abbrev pub IsUnowned : Layout → List ℕ → ℕ → Type 0
IsUnowned l vs c = (o : Owner) → In (number_of o) vs → HasCell (owned l o) c → ⊥

-- ---- what stands in the cells

-- the values stand in the cells from this one on
abbrev pub HoldsValues : Cells → ℕ → List ℤ → Type 0
HoldsValues m first xs = (p : ℕ) → p < length xs → cell_value m (first + p) ≡ value_at xs p

-- lower bound and extent of each dimension
abbrev pub HoldsDims : Cells → ℕ → List Dim → Type 0
HoldsDims m c [] = Unit {0}
HoldsDims m c (d ∷ ds) = (cell_value m c ≡ d.lower) × (cell_value m (c + 1) ≡ pos d.extent) × HoldsDims m (c + 2) ds

-- what a variable of this kind holds stands in its cells and its descriptor's; the values of one that is unallocated stand nowhere
abbrev pub StateStands : Cells → Range → Range → ValueKind → VarState → Type 0
StateStands m r b (kind.Place e) (state.Scalar z) = cell_value m r.first ≡ z
StateStands m r b (kind.Declared e shape) (state.Array a) = HoldsValues m r.first a.values
StateStands m r b (kind.Allocatable e rank) (state.Array a) = HoldsValues m r.first a.values × (cell_value m b.first ≡ pos 1) × HoldsDims m (b.first + 1) (dims a.shape)
StateStands m r b (kind.Allocatable e rank) (state.Unallocated k) = cell_value m b.first ≡ pos 0
StateStands m r b k s = ⊥

-- the state of the variable with this number
abbrev pub state_at : List Var → ℕ → VarState
state_at [] n = state.Scalar (pos 0)
state_at (v ∷ vs) zero = v.state
state_at (v ∷ vs) (suc n) = state_at vs n

-- the cells of this variable stand for its state
abbrev pub VarStands : Cells → Layout → (ℕ → ValueKind) → List Var → ℕ → Type 0
VarStands m l kinds vars n = StateStands m (range_at l.vars n) (range_at l.boxes n) (kinds n) (state_at vars n)

-- The cells stand for these variables of a state.
abbrev pub StandsFor : Cells → Layout → (ℕ → ValueKind) → List ℕ → List Var → Type 0
StandsFor m l kinds vs vars = (n : ℕ) → In n vs → VarStands m l kinds vars n

-- ---- what that does not say by itself

abbrev pub is_truth : Elem → Bool
is_truth I1 = true
is_truth I32 = false

-- A variable of this kind can hold this: values of its type, in the declared shape, or with the rank of the allocatable.
abbrev pub IsOfKind : ValueKind → VarState → Type 0
IsOfKind (kind.Place e) (state.Scalar z) = IsHeld (is_truth e) (state.Scalar z)
IsOfKind (kind.Declared e shape) (state.Array a) = (a.shape ≡ shape) × IsArray (is_truth e) a
IsOfKind (kind.Allocatable e rank) (state.Array a) = (a.shape.rank ≡ rank) × IsArray (is_truth e) a
IsOfKind (kind.Allocatable e rank) (state.Unallocated k) = (k ≡ rank) × (0 < rank) × (rank ≤ 3)
IsOfKind k s = ⊥

-- each cell is a word of 64 bits
abbrev pub HoldWords : Cells → Type 0
HoldWords m = (c : ℕ) → slice_index m c < 18446744073709551616

-- The variable with this number is the first of its name.
abbrev pub IsNamed : List Var → ℕ → Var → Type 0
IsNamed [] n v = ⊥
IsNamed (w ∷ ws) zero v = w ≡ v
IsNamed (w ∷ ws) (suc n) v = (bytes_eq w.name v.name ≡ false) × IsNamed ws n v

-- so many cells stand for these variables of a state, of which each is of its kind and the first of its name
pub record Stands (l : Layout) (kinds : ℕ → ValueKind) (vs : List ℕ) (cells : ℕ) (vars : List Var) (m : Cells) : Type 0 where
  pub long : length m ≡ cells
  pub stands : StandsFor m l kinds vs vars
  pub of_kinds : (n : ℕ) → In n vs → IsOfKind (kinds n) (state_at vars n)
  pub words : HoldWords m
  pub names : (n : ℕ) → In n vs → (v : Var) × IsNamed vars n v
