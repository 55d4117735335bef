use Rattle.std.proofs.Common.{◌≡◌, ◌+◌, ◌++◌, length, drop}
use Rattle.hlfir_ops.specs.RulesPlaces.{from_number}
use Rattle.hlfir_verify.proofs.going.define_names.Given as goal

abbrev pub invariant-each : goal.invariant-each
invariant-each l = record {
  defined : l.initial.walk.defined.items ++ from_number l.initial.walk.number l.names ≡ l.walk.defined.items ++ from_number l.walk.number (drop l._name-index l.names);
  number : length l.names + l.initial.walk.number ≡ length (drop l._name-index l.names) + l.walk.number;
  place : l.walk.place ≡ l.initial.walk.place;
}
