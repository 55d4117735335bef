-- Scopes: what is known where an op is appended.
use Rattle.std.specs.Prelude.{ℕ, suc, Bool, ◌||◌, if◌then◌else◌, List, [], ◌∷◌, Option, Some, None, bytes_eq}
use Rattle.ws_base.specs.declared.name.Name.{Name}
use Rattle.hlfir_ops.specs.declared.what.What.{What}
use Rattle.hlfir_ops.specs.declared.op.ValueId.{ValueId}
use Rattle.hlfir_ops.specs.Lines.{has_line}
use Rattle.hlfir_ops.specs.Numbers.{names_in}
use Rattle.hlfir_ops.specs.Built.{Place, first_in, names_at, taken_around, is_where, masked_around, line_around}
use Rattle.lower_values.specs.declared.names.Names.{Names}

-- an index name of a FORALL around, and its value
pub record Indexed : Type 0 where
  pub name : Name
  pub value : ValueId

-- what the names of the source stand for, the index names around from the innermost one out, whether a WHERE is around, and the line of an op that has none of its own
pub record Scope : Type 0 where
  pub names : Names
  pub indexes : List Indexed
  pub masked : Bool
  pub line : ℕ

-- the value of an index name
abbrev pub index_of : List Indexed → Name → Option ValueId
index_of [] x = None
index_of (i ∷ is) x = if bytes_eq i.name x then Some i.value else index_of is x

-- ---- the scope inside an op

-- these index names inside others, their values numbered from this number on
abbrev pub with_indexes : ℕ → List Name → List Indexed → List Indexed
with_indexes n [] outer = outer
with_indexes n (x ∷ xs) outer = with_indexes (suc n) xs (record { name = x; value = record { number = n } } ∷ outer)

-- in the region of this number, counted from 0, of an op on this line, where the first value in it has this number, index names counted
abbrev pub inside : What → ℕ → ℕ → ℕ → Scope → Scope
inside w line k first s = record {
  names = s.names;
  indexes = with_indexes first (names_in w k) s.indexes;
  masked = is_where w || s.masked;
  line = if has_line w then line else s.line;
}

-- ---- the scope at the place of a builder

abbrev pub indexes_around : List Place → List Indexed
indexes_around [] = []
indexes_around (p ∷ around) = with_indexes (first_in (taken_around around) p) (names_at p) (indexes_around around)

abbrev pub scope_at : Names → List Place → Scope
scope_at names around = record { names = names; indexes = indexes_around around; masked = masked_around around; line = line_around around }
