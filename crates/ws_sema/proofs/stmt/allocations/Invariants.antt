use Rattle.std.proofs.Common.{◌≡◌, drop}
use Rattle.std.specs.List.{flat_map}
use Rattle.ws_types.specs.Kinds.{least_from}
use Rattle.ws_sema.specs.Statements as statements
use Rattle.ws_sema.proofs.stmt.allocations.Given as goal

abbrev pub invariant-each : goal.invariant-each
invariant-each l = least_from l.initial.found (flat_map (statements.allocation_faults l.table l.line) l.parts) ≡ least_from l.found (flat_map (statements.allocation_faults l.table l.line) (drop l.part-index l.parts))
