-- What is left of the forms tells what all of them tell.
use Rattle.std.proofs.Common.{◌≡◌, drop}
use Rattle.alias_test.specs.Relations.{some_apart}
use Rattle.alias_test.proofs.relating.some_apart.Given as goal

abbrev pub invariant-each : goal.invariant-each
invariant-each l = some_apart (drop l.k l.fs) (drop l.k l.gs) ≡ some_apart l.fs l.gs
