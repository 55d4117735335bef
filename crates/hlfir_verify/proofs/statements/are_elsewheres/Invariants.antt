use Rattle.std.proofs.Common.{◌≡◌, drop}
use Rattle.hlfir_ops.specs.RulesStatements.{are_elsewheres}
use Rattle.hlfir_verify.proofs.statements.are_elsewheres.Given as goal

abbrev pub invariant-each : goal.invariant-each
invariant-each l = are_elsewheres (drop l.i l.ops) ≡ are_elsewheres l.ops
