use Rattle.std.proofs.Common.{◌≡◌, drop}
use Rattle.std.specs.List.{list_all}
use Rattle.std.specs.Prelude.{not}
use Rattle.hlfir_ops.specs.RulesValues.{is_allocatable_declare, value_at}
use Rattle.rule_tests.specs.Seen.{seen}
use Rattle.hlfir_verify.proofs.lists.no_allocatable.Given as goal

abbrev pub invariant-each : goal.invariant-each
invariant-each l = list_all (λ v. not (is_allocatable_declare (value_at (seen l.table) v))) (drop l.v-index l.vs) ≡ list_all (λ v. not (is_allocatable_declare (value_at (seen l.table) v))) l.vs
