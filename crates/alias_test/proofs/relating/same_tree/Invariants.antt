-- What is left of the trees tells what all of them tell.
use Rattle.std.proofs.Common.{◌≡◌, drop}
use Rattle.alias_test.specs.Relations.{same_tree}
use Rattle.alias_test.proofs.relating.same_tree.Given as goal

abbrev pub invariant-each : goal.invariant-each
invariant-each l = same_tree (drop l.k l.s) (drop l.k l.t) ≡ same_tree l.s l.t
