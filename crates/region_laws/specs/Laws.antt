-- What the names of a source give where a world fits them. What regions mean then is stated in `world_laws`.
use Rattle.std.specs.Prelude.{◌≡◌, ℕ, ◌<◌, length}
use Rattle.array_meaning.specs.declared.world.World.{World}
use Rattle.hlfir_meaning.specs.Environments.{Environment, of_variables}
use Rattle.lower_values.specs.declared.names.Names.{Names}
use Rattle.value_laws.specs.Names.{Agrees}
use Rattle.part_laws.specs.Joined.{HasSmallRanks}
use Rattle.world_laws.specs.Worlds.{FitsNames}

-- in an environment where the first values are the declares
abbrev pub NamesAgree : Type 0
NamesAgree = (names : Names) (w : World) (env : Environment) → FitsNames names w → ((k : ℕ) → k < length w.vars → env k ≡ of_variables w.vars k) → HasSmallRanks names × Agrees names (length w.vars) w env
