use Rattle.std.proofs.Common.{◌≡◌, take, drop, []}
use Rattle.ws_types.specs.Kinds.{least_from}
use Rattle.ws_sema.specs.Statements as statements
use Rattle.ws_sema.proofs.stmt.header.Given as goal

abbrev pub invariant-each : goal.invariant-each
invariant-each l = least_from l.initial.found (statements.header_faults l.table l.barred l.line [] l.indexes) ≡ least_from l.found (statements.header_faults l.table l.barred l.line (take l.i l.indexes) (drop l.i l.indexes))
