-- The trees that are left, and what is written of the trees after them, are all the trees.
use Rattle.std.proofs.Common.{◌≡◌, ◌++◌, reverse}
use Rattle.alias_test.specs.Givers.{ops_at}
use Rattle.alias_test.specs.Symbols.{trees_at}
use Rattle.alias_test.proofs.tree.trees_of.Given as goal

abbrev pub invariant-each : goal.invariant-each
invariant-each l = trees_at (ops_at l.table) l.left.items ++ reverse l.back.items ≡ trees_at (ops_at l.table) l.values
