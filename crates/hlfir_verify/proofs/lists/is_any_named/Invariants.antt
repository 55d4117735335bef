use Rattle.std.proofs.Common.{◌≡◌, drop}
use Rattle.std.specs.List.{list_any}
use Rattle.hlfir_ops.specs.RulesStatements.{is_named}
use Rattle.hlfir_verify.proofs.lists.is_any_named.Given as goal

abbrev pub invariant-each : goal.invariant-each
invariant-each l = list_any (is_named l.name) (drop l.op-index l.ops) ≡ list_any (is_named l.name) l.ops
