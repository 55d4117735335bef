use Rattle.std.proofs.Common.{◌≡◌, ◌≤◌, drop, Some}
use Rattle.ws_sema.specs.Declarations as declarations
use Rattle.ws_sema.proofs.decl.is_too_large.Given as goal

abbrev pub invariant-each : goal.invariant-each
invariant-each l = record {
  few : l.count ≤ 65537;
  same : declarations.is_too_large l.constants (Some 1) l.bounds ≡ declarations.is_too_large l.constants (Some l.count) (drop l.bound-index l.bounds);
}
