use Rattle.std.proofs.Common.{map, take}
use Rattle.rule_tests.specs.Uses.{AddsUses}
use Rattle.rule_tests.proofs.table.add_operands.Given as goal

abbrev pub invariant-each : goal.invariant-each
invariant-each l = AddsUses l.initial.uses l.uses (map (λ v. v.number) (take l.v-index l.operands))
