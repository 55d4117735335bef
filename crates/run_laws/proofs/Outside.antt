-- What is known outside assignments, WHERE and FORALL, and in the regions of ops that stand there.
use Rattle.std.proofs.Common.{◌≡◌, ap, ◌∙◌, ℕ, ◌≤◌, false, ◌||◌, List, [], length, arith}
use Rattle.ws_types.specs.declared.types.Row.{Row}
use Rattle.array_meaning.specs.declared.world.World.{World}
use Rattle.hlfir_ops.specs.declared.what.What.{What}
use Rattle.hlfir_ops.specs.Built.{is_where}
use Rattle.hlfir_ops.specs.Numbers.{names_in}
use Rattle.lower_values.specs.Scopes.{Scope, inside, with_indexes}
use Rattle.kind_laws.specs.Standing.{Knows}
use Rattle.kind_laws.proofs.ScopesKnown.{inside_known}
use Rattle.small_laws.proofs.Tables.{AreFit}
use Rattle.world_laws.specs.Worlds.{FitsNames}
use Rattle.world_laws.specs.Meanings.{StandsOutside}
use Rattle.world_laws.proofs.Fitting.{as_many}

pub record Outside (t : List Row) (s : Scope) (n : ℕ) : Type 0 where
  pub knows : Knows t s
  pub fit : AreFit t
  pub no_index : s.indexes ≡ []
  pub unmasked : s.masked ≡ false
  pub declared : length s.names.variables ≤ n

pub stands : (t : List Row) (s : Scope) (n : ℕ) (w : World) → Outside t s n → FitsNames s.names w → StandsOutside t s w n
stands t s n w h f = record { knows = h.knows; no_index = h.no_index; world = f; declared = omega (arith, h.declared, as_many 0 s.names.variables w.vars f.variables) }

pub outside-later : (t : List Row) (s : Scope) (n m : ℕ) → Outside t s n → n ≤ m → Outside t s m
outside-later t s n m h g = record { knows = h.knows; fit = h.fit; no_index = h.no_index; unmasked = h.unmasked; declared = omega (arith, h.declared, g) }

pub outside-inside : (t : List Row) (s : Scope) (n : ℕ) (w : What) (line k first : ℕ) → names_in w k ≡ [] → is_where w ≡ false → Outside t s n → Outside t (inside w line k first s) n
outside-inside t s n w line k first none plain h = record {
  knows = inside_known t s w line k first none h.knows;
  fit = h.fit;
  no_index = ap (λ xs. with_indexes first xs s.indexes) none ∙ h.no_index;
  unmasked = ap (λ b. b || s.masked) plain ∙ h.unmasked;
  declared = h.declared;
}
