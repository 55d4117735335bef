use Rattle.std.proofs.Common.{◌≡◌, ◌+◌, ◌≤◌, drop}
use Rattle.hlfir_ops.specs.RulesLimits.{declares_in}
use Rattle.rule_limits.proofs.limits.declares_in.Given as goal

abbrev pub invariant-each : goal.invariant-each
invariant-each l = (l.count ≤ l.op-index) × (l.count + declares_in (drop l.op-index l.ops) ≡ declares_in l.ops)
