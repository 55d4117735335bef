use Rattle.std.proofs.Common.{◌≡◌, ◌≤◌, ◌+◌, drop}
use Rattle.ws_stmt.specs.Roles.{skip}
use Rattle.ws_stmt.proofs.role.after_bracket.Given as goal

abbrev pub invariant-loop-at : goal.invariant-loop-at
invariant-loop-at l = record {
  low : l.count ≤ l.at + 1;
  same : skip l.count (drop l.at l.tokens) ≡ skip 1 l.tokens;
}
