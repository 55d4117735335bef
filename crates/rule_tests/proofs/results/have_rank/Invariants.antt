use Rattle.std.proofs.Common.{◌≡◌, drop}
use Rattle.std.specs.List.{list_all}
use Rattle.hlfir_ops.specs.RulesValues.{kind_at, has_rank}
use Rattle.rule_tests.specs.Seen.{seen}
use Rattle.rule_tests.proofs.results.have_rank.Given as goal

abbrev pub invariant-each : goal.invariant-each
invariant-each l = list_all (λ v. has_rank l.n (kind_at (seen l.table) v)) (drop l.v-index l.vs) ≡ list_all (λ v. has_rank l.n (kind_at (seen l.table) v)) l.vs
