use Rattle.std.proofs.Common.{drop}
use Rattle.act_lower.proofs.Pushing.{IsWalked}
use Rattle.act_lower.proofs.body.walk.Given as goal

abbrev pub invariant-each : goal.invariant-each
invariant-each l = IsWalked l.place l.fn.first l.fn.table.items l.body l.fn.ops l.n l.table.items (drop l.op-index l.body) l.ops
