use Rattle.std.proofs.Common.{◌≡◌, map, take}
use Rattle.lower_values.specs.References.{sub_kind}
use Rattle.lower_values.proofs.references.sub_kinds.Given as goal

abbrev pub invariant-each : goal.invariant-each
invariant-each l = l.kinds ≡ map sub_kind (take l.subscript-index l.subscripts)
