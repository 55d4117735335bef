use Rattle.std.proofs.Common.{◌≡◌, drop}
use Rattle.std.specs.List.{list_all}
use Rattle.hlfir_ops.specs.RulesForms.{same_scalars}
use Rattle.hlfir_ops.specs.RulesValues.{kind_at}
use Rattle.rule_tests.specs.Seen.{seen}
use Rattle.rule_tests.proofs.forms.are_like.Given as goal

abbrev pub invariant-each : goal.invariant-each
invariant-each l = list_all (λ w. same_scalars l.first (kind_at (seen l.table) w)) (drop l.v-index l.operands) ≡ list_all (λ w. same_scalars l.first (kind_at (seen l.table) w)) l.operands
