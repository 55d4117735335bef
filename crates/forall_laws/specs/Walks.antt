-- What a walk through lowered ops over all active combinations leaves.
use Rattle.std.specs.Prelude.{◌≡◌, ⊤, ℕ, ◌<◌, List, [], ◌∷◌, ℤ}
use Rattle.ws_base.specs.Outcomes.{Staged}
use Rattle.ws_space.specs.declared.state.Var.{Var}
use Rattle.hlfir_ops.specs.declared.kinds.ValueKind.{ValueKind}
use Rattle.hlfir_ops.specs.declared.kinds.ValueKind.TheVariants.{Scalar, Place}
use Rattle.hlfir_meaning.specs.Environments.{Environment, variable, column, placed}
use Rattle.hlfir_meaning.specs.Places.{over_ops}
use Rattle.lower_values.specs.declared.operand.Operand.{Operand}
use Rattle.lower_values.specs.declared.operand.Subscript.{Subscript}
use Rattle.lower_values.specs.declared.operand.Subscript.TheVariants.{One}
use Rattle.lower_values.specs.Scopes.{Scope}
use Rattle.lower_values.specs.Lowerings.{Lowering}
use Rattle.value_laws.specs.Standing.{DoesBy}

-- the ops of this lowering, walked over the combinations at these places, leave what stands for the same value, or end in the same fault
abbrev pub DoesOver : {A B : Type 0} → List ℕ → Scope → ℕ → Environment → Lowering A → Staged B → (A → B → ℕ → Environment → Type 0) → Type 0
DoesOver at s n env p r Q = DoesBy (over_ops at) s n env p r Q

abbrev pub IsPlain : ValueKind → Type 0
IsPlain (Scalar e) = Unit {0}
IsPlain _ = ⊥

-- a scalar operand that has these values at the combinations, and a number below this one
pub record IsColumn (x : Operand) (xs : List ℤ) (m : ℕ) (env : Environment) : Type 0 where
  pub found : env x.value.number ≡ column xs
  pub low : x.value.number < m
  pub plain : IsPlain x.kind

-- the same of several operands
abbrev pub AreColumns : List Operand → List (List ℤ) → ℕ → Environment → Type 0
AreColumns [] [] m env = Unit {0}
AreColumns (x ∷ xs) (c ∷ cs) m env = IsColumn x c m env × AreColumns xs cs m env
AreColumns _ _ m env = ⊥

-- a reference to this variable
pub record IsReference (v : Var) (r : Operand) (u : ⊤) (m : ℕ) (env : Environment) : Type 0 where
  pub found : env r.value.number ≡ variable v
  pub low : r.value.number < m

-- subscripts that are scalars with these values
abbrev pub AreSubscripts : List Subscript → List (List ℤ) → ℕ → Environment → Type 0
AreSubscripts [] [] m env = Unit {0}
AreSubscripts (One i ∷ ss) (c ∷ cs) m env = (env i.number ≡ column c) × (i.number < m) × AreSubscripts ss cs m env
AreSubscripts _ _ m env = ⊥

abbrev pub IsPlace : ValueKind → Type 0
IsPlace (Place e) = Unit {0}
IsPlace _ = ⊥

-- an element of this variable, at these places
pub record ArePlaces (v : Var) (x : Operand) (ps : List ℕ) (m : ℕ) (env : Environment) : Type 0 where
  pub found : env x.value.number ≡ placed v ps
  pub low : x.value.number < m
  pub place : IsPlace x.kind
