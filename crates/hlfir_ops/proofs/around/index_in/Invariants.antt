-- What is left to look at gives the same.
use Rattle.std.proofs.Common.{◌≡◌, ◌+◌, drop}
use Rattle.hlfir_ops.specs.Built.{index_here}
use Rattle.hlfir_ops.proofs.around.index_in.Given as goal

abbrev pub invariant-names : goal.invariant-names
invariant-names l = (l.number ≡ l.first + l.x-index) × (index_here l.name l.number (drop l.x-index l.names) l.found ≡ index_here l.name l.first l.names l.fn.before)
