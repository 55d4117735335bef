-- When an environment over combinations stands for a source's world and its combination of index values at each place.
use Rattle.std.specs.Prelude.{◌≡◌, ℕ, ◌<◌, ◌≤◌, List, length, map, Option, Some, None, ℤ}
use Rattle.ws_base.specs.declared.name.Name.{Name}
use Rattle.ws_types.specs.declared.constant.Constancy.TheVariants.{NotConstant}
use Rattle.ws_types.specs.Constants as known
use Rattle.array_meaning.specs.declared.world.World.{World}
use Rattle.array_meaning.specs.Stage1.{constant_of}
use Rattle.array_meaning.specs.Forall.{Combination}
use Rattle.hlfir_ops.specs.declared.op.ValueId.{ValueId}
use Rattle.hlfir_meaning.specs.Environments.{column, Environment, of_variables}
use Rattle.lower_values.specs.declared.names.Names.{Names}
use Rattle.lower_values.specs.Scopes.{Scope, index_of}
use Rattle.world_laws.specs.Worlds.{FitsNames}

-- the values of an index name, whose number is below this one
pub record IsIndex (at : List ℕ) (of : ℕ → Combination) (names : Names) (env : Environment) (n : ℕ) (x : Name) (v : ValueId) : Type 0 where
  pub values : ℕ → ℤ
  pub low : v.number < n
  pub found : env v.number ≡ column (map values at)
  pub combined : (p : ℕ) → constant_of (of p) x ≡ Some (values p)
  pub apart : known.constant_of names.constants x ≡ NotConstant

-- no other name has a value in the combinations
abbrev pub IndexStands : List ℕ → (ℕ → Combination) → Names → Environment → ℕ → Name → Option ValueId → Type 0
IndexStands at of names env n x (Some v) = IsIndex at of names env n x v
IndexStands at of names env n x None = (p : ℕ) → constant_of (of p) x ≡ None

pub record StandsOver (at : List ℕ) (of : ℕ → Combination) (s : Scope) (w : World) (n : ℕ) (env : Environment) : Type 0 where
  pub world : FitsNames s.names w
  pub variables : (k : ℕ) → k < length w.vars → env k ≡ of_variables w.vars k
  pub declared : length w.vars ≤ n
  pub indexes : (x : Name) → IndexStands at of s.names env n x (index_of s.indexes x)
