use Rattle.std.proofs.Common.{◌≡◌, take, map}
use Rattle.ws_sema.specs.Declarations as declarations
use Rattle.ws_sema.proofs.decl.table_of.Given as goal

abbrev pub invariant-each : goal.invariant-each
invariant-each l = l.table.items ≡ map declarations.row_of (take l.decl-index l.decls)
