use Rattle.std.proofs.Common.{◌≡◌, ◌≤◌, ◌+◌, drop}
use Rattle.ws_stmt.specs.Roles.{is_crowded}
use Rattle.ws_stmt.proofs.role.is_crowded.Given as goal

abbrev pub invariant-loop-token : goal.invariant-loop-token
invariant-loop-token l = record {
  low : l.count ≤ 257;
  same : is_crowded l.count (drop l.token-index l.tokens) ≡ is_crowded 0 l.tokens;
}
