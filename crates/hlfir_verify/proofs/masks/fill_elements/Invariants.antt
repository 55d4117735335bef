use Rattle.std.proofs.Common.{◌≡◌, drop}
use Rattle.std.specs.List.{list_all}
use Rattle.hlfir_ops.specs.RulesStatements.{fills_elements}
use Rattle.rule_tests.specs.Seen.{seen}
use Rattle.hlfir_verify.proofs.masks.fill_elements.Given as goal

abbrev pub invariant-each : goal.invariant-each
invariant-each l = list_all (fills_elements (seen l.table)) (drop l.op-index l.ops) ≡ list_all (fills_elements (seen l.table)) l.ops
