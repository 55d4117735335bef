use Rattle.std.proofs.Common.{◌≡◌, ◌∷◌, ◌++◌, drop}
use Rattle.std.specs.List.{flat_map}
use Rattle.lower_values.specs.References.{sub_values}
use Rattle.lower_values.proofs.references.part_values.Given as goal

abbrev pub invariant-each : goal.invariant-each
invariant-each l = l.values ++ flat_map sub_values (drop l.subscript-index l.subscripts) ≡ l.fn.array.value ∷ flat_map sub_values l.subscripts
