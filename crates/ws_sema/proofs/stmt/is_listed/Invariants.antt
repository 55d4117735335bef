use Rattle.std.proofs.Common.{◌≡◌, drop}
use Rattle.ws_sema.specs.Statements as statements
use Rattle.ws_sema.proofs.stmt.is_listed.Given as goal

abbrev pub invariant-each : goal.invariant-each
invariant-each l = statements.is_listed l.indexes l.name ≡ statements.is_listed (drop l.index-index l.indexes) l.name
