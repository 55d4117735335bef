use Rattle.std.proofs.Common.{◌≡◌, ◌≤◌, drop}
use Rattle.ws_types.specs.Kinds.{least_from}
use Rattle.ws_types.specs.Operations.{no_arguments, no_subscripts}
use Rattle.ws_types.specs.Lists as lists
use Rattle.ws_types.proofs.typing.+judging.Given as goal

abbrev pub invariant-arguments-each : goal.invariant-arguments-each
invariant-arguments-each l = record {
  typed : lists.arguments l.table l.inside no_arguments l.es ≡ lists.arguments l.table l.inside l.arguments (drop l.e-index l.es);
  found : least_from l.initial.found (lists.all_faults l.table l.inside l.line l.es) ≡ least_from l.found (lists.all_faults l.table l.inside l.line (drop l.e-index l.es));
}

abbrev pub invariant-subs_of-each : goal.invariant-subs_of-each
invariant-subs_of-each l = record {
  typed : lists.subscripts l.table l.inside no_subscripts l.subs ≡ lists.subscripts l.table l.inside l.subscripts (drop l.sub-index l.subs);
  found : least_from l.initial.found (lists.subs_faults l.table l.inside l.line l.subs) ≡ least_from l.found (lists.subs_faults l.table l.inside l.line (drop l.sub-index l.subs));
  few : l.subscripts.rank ≤ l.sub-index;
}
