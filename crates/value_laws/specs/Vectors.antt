-- The vector subscripts of a region, by their numbers.
use Rattle.std.specs.Prelude.{◌≡◌, ℕ, ◌+◌, ◌<◌, ◌≤◌, List, Some}
use Rattle.ws_base.specs.declared.name.Name.{Name}
use Rattle.ws_space.specs.Values.{is_among}
use Rattle.hlfir_ops.specs.declared.op.Op.{Op}
use Rattle.hlfir_ops.specs.Numbers.{numbers_of}
use Rattle.hlfir_meaning.specs.Stage1.{subscript_numbers}
use Rattle.lower_values.specs.declared.operand.Operand.{Operand}
use Rattle.lower_values.specs.References.{variable_of}
use Rattle.lower_values.specs.Scopes.{Scope}

-- among the values of these ops they are the ops' own, as among those of a whole region
abbrev pub VectorsAre : List ℕ → ℕ → List Op → Type 0
VectorsAre vectors n ops = (k : ℕ) → n ≤ k → k < n + numbers_of ops → is_among k vectors ≡ is_among k (subscript_numbers ops)

-- the declares have numbers below this one
abbrev pub AreDeclaredBelow : ℕ → Scope → Type 0
AreDeclaredBelow base s = (x : Name) (d : Operand) → variable_of s.names.variables x ≡ Some d → d.value.number < base
