use Rattle.std.proofs.Common.{◌≡◌, ◌++◌, take}
use Rattle.ws_types.proofs.tables.push_rows.Given as goal

abbrev pub invariant-each : goal.invariant-each
invariant-each l = l.rows.items ≡ l.initial.rows.items ++ take l.row-index l.table
