use Rattle.std.proofs.Common.{◌≡◌, drop}
use Rattle.ws_stmt.specs.Roles.{has_foreign}
use Rattle.ws_stmt.proofs.role.has_foreign.Given as goal

abbrev pub invariant-loop-token : goal.invariant-loop-token
invariant-loop-token l = has_foreign (drop l.token-index l.tokens) ≡ has_foreign l.tokens
