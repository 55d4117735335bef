-- Operands that refer to a variable or to a part of one, and what a designator takes as its subscripts.
use Rattle.std.specs.Prelude.{◌≡◌, ℕ, ◌<◌, ◌≤◌, List, [], ◌∷◌, length}
use Rattle.std.specs.List.{All}
use Rattle.ws_space.specs.declared.state.ArrayValue.{ArrayValue}
use Rattle.ws_space.specs.declared.state.VarState.TheVariants as state
use Rattle.ws_space.specs.declared.state.Var.{Var}
use Rattle.ws_space.specs.Shapes.{Extents, dims}
use Rattle.array_meaning.specs.declared.term.Term.{Term}
use Rattle.array_meaning.specs.declared.term.Term.TheVariants.{Scalar}
use Rattle.array_meaning.specs.declared.term.Pick.{Pick}
use Rattle.array_meaning.specs.Stage1.{picked}
use Rattle.array_meaning.specs.Stage2 as later
use Rattle.hlfir_ops.specs.declared.kinds.Elem.{Elem}
use Rattle.hlfir_ops.specs.declared.kinds.ValueKind.{ValueKind}
use Rattle.hlfir_ops.specs.RulesValues.{rank_of}
use Rattle.hlfir_meaning.specs.Environments.{Selection, Value, variable, array, part, Environment}
use Rattle.lower_values.specs.declared.operand.Operand.{Operand}
use Rattle.lower_values.specs.References.{part_kind}
use Rattle.value_laws.specs.Standing.{IsOwn, Stands}
use Rattle.value_laws.specs.Variables.{IsArrayOf, IsNamed}
use Rattle.part_laws.specs.Selects.{Selects}

-- the operand is the variable, or its box, and this is the array that it holds
pub record Refers (base low high : ℕ) (env : Environment) (x : Operand) (v : Var) (a : ArrayValue) : Type 0 where
  pub found : env x.value.number ≡ variable v
  pub holds : v.state ≡ state.Array a
  pub own : IsOwn base low high x.value.number
  pub fits : IsArrayOf (rank_of x.kind) a

-- an element's place or a section, of the rank of these extents
abbrev pub IsPartKind : ValueKind → Extents → Type 0
IsPartKind kind e = (elem : Elem) × (kind ≡ part_kind elem (length e))

-- the operand is what these picks select of the variable's array
pub record IsPart (low high : ℕ) (env : Environment) (x : Operand) (v : Var) (a : ArrayValue) (ps : List Pick) : Type 0 where
  pub selected : Selection
  pub found : env x.value.number ≡ part v a selected
  pub selects : Selects (dims a.shape) selected ps
  pub from : low ≤ x.value.number
  pub upto : x.value.number < high
  pub kind : IsPartKind x.kind (picked ps)

-- ---- operands that a designator takes

-- a value that refers to the elements of a vector, or holds them
abbrev pub IsHeld : Value → Type 0
IsHeld (variable v) = Unit {0}
IsHeld (array e xs) = Unit {0}
IsHeld (part v a s) = Unit {0}
IsHeld _ = ⊥

-- A scalar has no array operands, and those of a vector have one dimension.
abbrev pub IsOfRankOne : Extents → Type 0
IsOfRankOne (n ∷ []) = Unit {0}
IsOfRankOne _ = ⊥

abbrev pub HasOneDimension : Term → Type 0
HasOneDimension t = All IsOfRankOne (later.operands t)

-- As a subscript: a scalar, or a value like this, which is a vector if its kind is that of one.
abbrev pub IsTaken : ValueKind → Value → Term → Type 0
IsTaken k v (Scalar z) = Unit {0}
IsTaken k v t = IsHeld v × (rank_of k ≤ 1 → HasOneDimension t)

-- it stands for the term, and a designator may take it
abbrev pub StandsTaken : ℕ → ℕ → ℕ → Environment → Operand → Term → Type 0
StandsTaken base low high env x t = Stands base low high env x t × IsTaken x.kind (env x.value.number) t

-- The same of what is neither a declare nor a box of an array, so that parentheses do not copy it.
abbrev pub StandsUnnamed : ℕ → ℕ → ℕ → Environment → Operand → Term → Type 0
StandsUnnamed base low high env x t = StandsTaken base low high env x t × (IsNamed x.kind → ⊥)
