use Rattle.std.proofs.Common.{◌≡◌, drop}
use Rattle.ws_types.specs.Names as names
use Rattle.ws_types.proofs.names.standing_of.Given as goal

abbrev pub invariant-loop-row : goal.invariant-loop-row
invariant-loop-row l = names.standing_of l.table l.name ≡ names.standing_of (drop l.row-index l.table) l.name
