-- What the values of a module stand for while a step is carried out.
use Rattle.std.specs.Prelude.{ℕ, zero, suc, ◌==◌, false, if◌then◌else◌, List, [], ◌∷◌, ℤ, pos}
use Rattle.ws_space.specs.declared.shape.Triplet.{Triplet}
use Rattle.ws_space.specs.declared.state.ArrayValue.{ArrayValue}
use Rattle.ws_space.specs.declared.state.VarState.{VarState}
use Rattle.ws_space.specs.declared.state.VarState.TheVariants as state
use Rattle.ws_space.specs.declared.state.Var.{Var}
use Rattle.ws_space.specs.Shapes.{Extents}
use Rattle.hlfir_ops.specs.declared.op.ValueId.{ValueId}
use Rattle.hlfir_ops.specs.declared.op.Op.{Op}

-- What a designator selects, dimension by dimension: one subscript, those of a triplet, so many listed ones, or those that a section of another array holds.
pub data Selection : Type 0 where
  complete : Selection
  one : ℤ → Selection → Selection
  range : Triplet → Selection → Selection
  listed : ℕ → List ℤ → Selection → Selection
  through : ArrayValue → Selection → Selection → Selection

-- what stage 1 leaves: the elements of a section, or the body of an elemental
pub data Work : Type 0 where
  elements_of : ArrayValue → Selection → Work
  body_of : List Op → Work

-- with the number of the value that it gives
pub record Deferred : Type 0 where
  pub number : ℕ
  pub work : Work

pub data Value : Type 0 where
  -- a variable, to which a declare or a box refers
  variable : Var → Value
  scalar : ℤ → Value
  -- the values of an array of this shape
  array : Extents → List ℤ → Value
  -- an element or a section of a variable's array
  part : Var → ArrayValue → Selection → Value
  -- an array that stage 2 computes: the shapes of its operands, and what leads to it, in printed order
  computed : List Extents → List Deferred → Value
  -- the values at all active places
  column : List ℤ → Value
  -- an element of a variable's array at each active combination, by its place
  placed : Var → List ℕ → Value

-- ---- environments

-- what each value number stands for
abbrev pub Environment : Type 0
Environment = ℕ → Value

abbrev pub with_value : ℕ → Value → Environment → Environment
with_value n x env = λ k. if k == n then x else env k

-- The declares have the first numbers, and stand for the variables as they are now.
abbrev pub of_variables : List Var → Environment
of_variables [] n = scalar (pos 0)
of_variables (v ∷ vs) zero = variable v
of_variables (v ∷ vs) (suc n) = of_variables vs n

abbrev pub standing : Environment → ValueId → Value
standing env v = env v.number

-- ---- regions of ops that yield

-- its ops, and the number of their first value
pub record OpRegion : Type 0 where
  pub first : ℕ
  pub ops : List Op

-- what its values stand for, and which of them it yields
pub record Yielded : Type 0 where
  pub env : Environment
  pub parts : List ValueId

abbrev pub number_of : List ValueId → ℕ
number_of [] = 0
number_of (v ∷ vs) = v.number

abbrev pub yielding : Environment → List ValueId → Yielded
yielding env vs = record { env = env; parts = vs }

-- the number of the one value that is yielded, and what it stands for
abbrev pub yielded_number : Yielded → ℕ
yielded_number y = number_of y.parts

abbrev pub result : Yielded → Value
result y = y.env (yielded_number y)

-- ---- what an op takes

-- what the first operand stands for
abbrev pub operand : Environment → List ValueId → Value
operand env [] = scalar (pos 0)
operand env (v ∷ vs) = standing env v

abbrev pub scalar_in : Value → ℤ
scalar_in (scalar z) = z
scalar_in _ = pos 0

-- a variable that is referred to
abbrev pub no_variable : Var
no_variable = record { name = []; truth = false; state = state.Scalar (pos 0) }

abbrev pub variable_in : Value → Var
variable_in (variable v) = v
variable_in (part v a s) = v
variable_in (placed v ps) = v
variable_in _ = no_variable

abbrev pub state_in : Value → VarState
state_in x = (variable_in x).state
