use Rattle.std.proofs.Common.{◌≡◌, ◌+◌, map, drop}
use Rattle.hlfir_ops.specs.RulesForms.{section_rank}
use Rattle.lower_values.specs.References.{sub_kind}
use Rattle.lower_values.proofs.references.section_rank.Given as goal

abbrev pub invariant-each : goal.invariant-each
invariant-each l = l.rank + section_rank (map sub_kind (drop l.subscript-index l.subscripts)) ≡ section_rank (map sub_kind l.subscripts)
