use Rattle.std.proofs.Common.{◌≡◌, drop}
use Rattle.std.specs.List.{list_all}
use Rattle.hlfir_ops.specs.RulesStatements.{yields_no_allocatable}
use Rattle.rule_tests.specs.Seen.{seen}
use Rattle.hlfir_verify.proofs.lists.yield_no_allocatable.Given as goal

abbrev pub invariant-each : goal.invariant-each
invariant-each l = list_all (yields_no_allocatable (seen l.table)) (drop l.region-index l.regions) ≡ list_all (yields_no_allocatable (seen l.table)) l.regions
