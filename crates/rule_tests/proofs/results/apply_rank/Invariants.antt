use Rattle.std.proofs.Common.{◌≡◌, drop}
use Rattle.std.specs.List.{list_all}
use Rattle.hlfir_ops.specs.RulesForms.{applies_rank}
use Rattle.rule_tests.specs.Seen.{seen}
use Rattle.rule_tests.proofs.results.apply_rank.Given as goal

abbrev pub invariant-each : goal.invariant-each
invariant-each l = list_all (applies_rank (seen l.table) l.n) (drop l.op-index l.ops) ≡ list_all (applies_rank (seen l.table) l.n) l.ops
