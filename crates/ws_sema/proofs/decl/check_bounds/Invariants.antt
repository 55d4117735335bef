use Rattle.std.proofs.Common.{◌≡◌, drop}
use Rattle.ws_types.specs.Kinds.{least_from}
use Rattle.ws_sema.specs.Declarations as declarations
use Rattle.ws_sema.proofs.decl.check_bounds.Given as goal

abbrev pub invariant-each : goal.invariant-each
invariant-each l = least_from l.initial.found (declarations.bounds_faults l.constants l.line l.allocatable l.bounds) ≡ least_from l.found (declarations.bounds_faults l.constants l.line l.allocatable (drop l.bound-index l.bounds))
