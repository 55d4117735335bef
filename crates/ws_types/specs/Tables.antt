-- The tables inside a FORALL.
use Rattle.std.specs.Prelude.{List, ◌++◌, map}
use Rattle.ws_tree.specs.declared.stmt.Index.{Index}
use Rattle.ws_types.specs.declared.types.Standing.{Standing}
use Rattle.ws_types.specs.declared.types.Standing.TheVariants.{Index as Index', Barred}
use Rattle.ws_types.specs.declared.types.Row.{Row}

abbrev pub row : Standing → Index → Row
row s i = record { name = i.name; standing = s }

-- the table in which these index names stand first
abbrev pub with_indexes : Standing → List Index → List Row → List Row
with_indexes s is t = map (row s) is ++ t

-- the table of the header of a FORALL, whose bounds may not use the index names
abbrev pub barred : List Row → List Index → List Row
barred t is = with_indexes Barred is t

-- the table inside a FORALL
abbrev pub inner : List Row → List Index → List Row
inner t is = with_indexes Index' is t
