use Rattle.std.proofs.Common.{◌≡◌, ◌+◌, ◌++◌, drop}
use Rattle.std.specs.List.{sum}
use Rattle.storage_owner.specs.Ranges.{in_a_row}
use Rattle.storage_owner.proofs.rows.row_of.Given as goal

abbrev pub invariant-each : goal.invariant-each
invariant-each l = record {
  ranges : in_a_row l.first l.sizes ≡ l.row.ranges ++ in_a_row l.row.next (drop l.cells-index l.sizes);
  next : l.first + sum l.sizes ≡ l.row.next + sum (drop l.cells-index l.sizes);
}
