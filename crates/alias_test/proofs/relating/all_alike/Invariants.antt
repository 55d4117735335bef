-- What is left of the forms tells what all of them tell.
use Rattle.std.proofs.Common.{◌≡◌, drop}
use Rattle.alias_test.specs.Relations.{all_alike}
use Rattle.alias_test.proofs.relating.all_alike.Given as goal

abbrev pub invariant-each : goal.invariant-each
invariant-each l = all_alike (drop l.k l.fs) (drop l.k l.gs) ≡ all_alike l.fs l.gs
