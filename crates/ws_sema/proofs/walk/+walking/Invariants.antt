use Rattle.std.proofs.Common.{◌≡◌, drop}
use Rattle.std.specs.List.{flat_map}
use Rattle.ws_types.specs.Kinds.{least_from}
use Rattle.ws_sema.specs.Statements as statements
use Rattle.ws_sema.proofs.walk.+walking.Given as goal

abbrev pub invariant-stmts-each : goal.invariant-stmts-each
invariant-stmts-each l = least_from l.initial.found (flat_map (statements.stmt_faults l.table l.within) l.block) ≡ least_from l.found (flat_map (statements.stmt_faults l.table l.within) (drop l.stmt-index l.block))

abbrev pub invariant-elses-each : goal.invariant-elses-each
invariant-elses-each l = least_from l.initial.found (flat_map (statements.else_faults l.table l.line l.first) l.rest) ≡ least_from l.found (flat_map (statements.else_faults l.table l.line l.first) (drop l.part-index l.rest))
