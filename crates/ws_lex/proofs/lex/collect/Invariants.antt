use Rattle.std.proofs.Common.{◌≡◌, ◌≤◌, ◌-◌, ◌++◌, length, drop}
use Rattle.ws_lex.specs.Tokens.{pieces, statements, tokens_before}
use Rattle.ws_lex.specs.Steps.{collected}
use Rattle.ws_lex.proofs.lex.collect.Given as goal

abbrev pub invariant-pieces : goal.invariant-pieces
invariant-pieces l = record {
  same : l.out ++ collected l.limit l.begun (pieces (drop l.at l.cells)) ≡ tokens_before l.limit (statements (pieces l.cells));
  within : l.at ≤ length l.cells;
}

abbrev pub decreases-pieces : goal.decreases-pieces
decreases-pieces l = length l.cells - l.at
