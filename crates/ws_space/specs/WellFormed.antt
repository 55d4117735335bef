-- Shapes within the limits, and the states that a checked program can reach.
use Rattle.std.specs.Prelude.{ℕ, ◌<◌, ◌≤◌, ◌≡◌, Bool, true, false, ◌||◌, length, ℤ, pos, ◌≤ℤ◌}
use Rattle.std.specs.List.{All, AllPass}
use Rattle.ws_base.specs.Numbers.{int_eq, in_range, default_half}
use Rattle.ws_space.specs.declared.shape.Dim.{Dim}
use Rattle.ws_space.specs.declared.shape.Shape.{Shape}
use Rattle.ws_space.specs.declared.shape.TheConstants.{ELEMENT_LIMIT}
use Rattle.ws_space.specs.declared.state.ArrayValue.{ArrayValue}
use Rattle.ws_space.specs.declared.state.VarState.{VarState}
use Rattle.ws_space.specs.declared.state.VarState.TheVariants.{Scalar, Array, Unallocated}
use Rattle.ws_space.specs.declared.state.Var.{Var}
use Rattle.ws_space.specs.declared.state.State.{State}
use Rattle.ws_space.specs.Shapes.{dims, shape_of, extents_of, size, upper}

-- how many elements an array of this shape has
abbrev pub elements : Shape → ℕ
elements s = size (extents_of (dims s))

-- the last subscript is a default integer
abbrev pub HasLast : Dim → Type 0
HasLast d = upper d ≤ℤ pos 2147483647

-- the dimension has an element, and each of its subscripts is a default integer
pub record IsFilled (d : Dim) : Type 0 where
  pub some : 0 < d.extent
  pub last : HasLast d

-- A shape of at most 65536 elements. An empty one may have a last subscript that is no default integer.
pub record IsShape (s : Shape) : Type 0 where
  pub rank : s.rank ≤ 3
  pub few : elements s ≤ ELEMENT_LIMIT
  pub last : 0 < elements s → All HasLast (dims s)

-- the values of LOGICAL are 0 and 1, and those of INTEGER the kind's
abbrev pub is_value : Bool → ℤ → Bool
is_value true z = int_eq z (pos 0) || int_eq z (pos 1)
is_value false z = in_range default_half z

-- An array, with a value for each element. An extent is at most 4294967296, which beside an extent 0 is more than the limit of elements.
pub record IsArray (truth : Bool) (a : ArrayValue) : Type 0 where
  pub shape : IsShape a.shape
  pub rank : 0 < a.shape.rank
  pub unused : shape_of (dims a.shape) ≡ a.shape
  pub extents : All (λ d. d.extent ≤ 4294967296) (dims a.shape)
  pub as_many : length a.values ≡ elements a.shape
  pub values : AllPass (is_value truth) a.values

abbrev pub IsHeld : Bool → VarState → Type 0
IsHeld truth (Scalar z) = is_value truth z ≡ true
IsHeld truth (Array a) = IsArray truth a
IsHeld truth (Unallocated rank) = (0 < rank) × (rank ≤ 3)

-- the variable holds what its type has
abbrev pub IsWellFormedVar : Var → Type 0
IsWellFormedVar v = IsHeld v.truth v.state

abbrev pub IsWellFormed : State → Type 0
IsWellFormed s = All IsWellFormedVar s.vars
