use Rattle.std.proofs.Common.{◌≡◌, take, map}
use Rattle.ws_types.specs.Tables as tables
use Rattle.ws_types.proofs.tables.with_indexes.Given as goal

abbrev pub invariant-each : goal.invariant-each
invariant-each l = l.rows.items ≡ map (tables.row l.standing) (take l.index-index l.indexes)
