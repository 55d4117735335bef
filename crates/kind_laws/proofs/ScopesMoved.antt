-- What is known and found in a scope is so in the regions of an op that brings no names.
use Rattle.std.proofs.Common.{ℕ, Bool, Option, Some, None, List}
use Rattle.ws_types.specs.declared.types.Row.{Row}
use Rattle.ws_types.specs.declared.types.Standing.{Standing}
use Rattle.ws_types.specs.declared.types.Standing.TheVariants.{Declared, Active, Index, Barred}
use Rattle.ws_types.specs.Names.{Name, standing_of}
use Rattle.hlfir_ops.specs.RulesValues.{Value}
use Rattle.lower_values.specs.Scopes.{Scope}
use Rattle.kind_laws.specs.Standing.{NameIsKnown, Knows}
use Rattle.kind_laws.specs.Found.{ScopeIsFound}

-- the scope of another place, with the same names and index names
abbrev pub moved : Bool → ℕ → Scope → Scope
moved masked line s = record { names = s.names; indexes = s.indexes; masked = masked; line = line }

name_moved : (s : Scope) (masked : Bool) (line : ℕ) (x : Name) (o : Option Standing) → NameIsKnown s x o → NameIsKnown (moved masked line s) x o
name_moved s masked line x None h = h
name_moved s masked line x (Some (Declared e)) h = h
name_moved s masked line x (Some (Active e)) h = h
name_moved s masked line x (Some Index) h = h
name_moved s masked line x (Some Barred) h = h

pub knows-moved : (t : List Row) (s : Scope) (masked : Bool) (line : ℕ) → Knows t s → Knows t (moved masked line s)
knows-moved t s masked line h x = name_moved s masked line x (standing_of t x) (h x)

pub found-moved : (vs : List Value) (s : Scope) (masked : Bool) (line : ℕ) → ScopeIsFound vs s → ScopeIsFound vs (moved masked line s)
found-moved vs s masked line h = record { variables = h.variables; indexes = h.indexes }
