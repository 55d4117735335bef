use Rattle.std.proofs.Common.{◌≡◌, take, drop, []}
use Rattle.ws_types.specs.Kinds.{least_from}
use Rattle.ws_types.specs.Names.{Name}
use Rattle.ws_sema.specs.Declarations as declarations
use Rattle.ws_sema.specs.Seen.{holds}
use Rattle.ws_sema.proofs.decl.check_decls.Given as goal

abbrev pub invariant-each : goal.invariant-each
invariant-each l = record {
  constants : declarations.constants_after [] l.decls ≡ declarations.constants_after l.constants.items (drop l.i l.decls);
  found : least_from l.initial.found (declarations.decls_faults [] [] l.decls) ≡ least_from l.found (declarations.decls_faults (take l.i l.decls) l.constants.items (drop l.i l.decls));
  seen : (x : Name) → holds l.seen x ≡ declarations.is_declared (take l.i l.decls) x;
}
