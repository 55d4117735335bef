use Rattle.std.proofs.Common.{◌≡◌, ◌≤◌, ◌+◌, drop}
use Rattle.ws_stmt.specs.Roles.{closes_at_end}
use Rattle.ws_stmt.proofs.role.closes_at_end.Given as goal

abbrev pub invariant-loop-token : goal.invariant-loop-token
invariant-loop-token l = record {
  low : l.count ≤ l.token-index + 1;
  same : closes_at_end l.count (drop l.token-index l.tokens) ≡ closes_at_end 1 l.tokens;
}
