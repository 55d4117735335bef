use Rattle.std.proofs.Common.{◌≡◌, ◌≤◌, ◌-◌, length, drop, None}
use Rattle.ws_lex.specs.Tokens.{breaks, pieces}
use Rattle.ws_lex.specs.Steps.{least_from}
use Rattle.ws_lex.proofs.lex.least_break.Given as goal

abbrev pub invariant-pieces : goal.invariant-pieces
invariant-pieces l = record {
  same : least_from l.best (breaks (pieces (drop l.at l.cells))) ≡ least_from None (breaks (pieces l.cells));
  within : l.at ≤ length l.cells;
}

abbrev pub decreases-pieces : goal.decreases-pieces
decreases-pieces l = length l.cells - l.at
