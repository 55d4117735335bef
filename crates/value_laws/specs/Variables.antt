-- When a declare fits what the variable holds, and when it stands for a whole array.
use Rattle.std.specs.Prelude.{◌≡◌, ℕ, ◌==◌, false}
use Rattle.ws_space.specs.declared.state.ArrayValue.{ArrayValue}
use Rattle.ws_space.specs.declared.state.VarState.{VarState}
use Rattle.ws_space.specs.declared.state.VarState.TheVariants as state
use Rattle.ws_space.specs.declared.state.Var.{Var}
use Rattle.array_meaning.specs.declared.term.Term.{Term}
use Rattle.array_meaning.specs.Stage1.{whole_array}
use Rattle.hlfir_ops.specs.declared.kinds.ValueKind.{ValueKind}
use Rattle.hlfir_ops.specs.declared.kinds.ValueKind.TheVariants as kind
use Rattle.hlfir_meaning.specs.Environments.{Value, variable}

-- an array of this rank, which is not 0
pub record IsArrayOf (rank : ℕ) (a : ArrayValue) : Type 0 where
  pub same : a.shape.rank ≡ rank
  pub some : (rank == 0) ≡ false

abbrev pub Fits : ValueKind → VarState → Type 0
Fits (kind.Place e) (state.Scalar z) = Unit {0}
Fits (kind.Declared e shape) (state.Array a) = IsArrayOf shape.rank a
Fits (kind.Allocatable e rank) (state.Array a) = IsArrayOf rank a
Fits (kind.Allocatable e rank) (state.Unallocated r) = Unit {0}
Fits _ _ = ⊥

-- the value is a variable that holds an array of this rank, and the term is all of this array
pub record IsWhole (rank : ℕ) (v : Value) (t : Term) : Type 0 where
  pub var : Var
  pub array : ArrayValue
  pub value : v ≡ variable var
  pub holds : var.state ≡ state.Array array
  pub fits : IsArrayOf rank array
  pub term : t ≡ whole_array array

-- a declare of an array, or a box
abbrev pub IsNamed : ValueKind → Type 0
IsNamed (kind.Declared e shape) = Unit {0}
IsNamed (kind.Allocatable e rank) = Unit {0}
IsNamed _ = ⊥

-- which stands for the whole array
abbrev pub IsWholeWhereNamed : ValueKind → Value → Term → Type 0
IsWholeWhereNamed (kind.Declared e shape) v t = IsWhole shape.rank v t
IsWholeWhereNamed (kind.Allocatable e rank) v t = IsWhole rank v t
IsWholeWhereNamed _ v t = Unit {0}
