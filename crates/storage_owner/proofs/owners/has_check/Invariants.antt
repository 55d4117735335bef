use Rattle.std.proofs.Common.{◌≡◌, drop}
use Rattle.storage_owner.specs.Layouts.{has_check}
use Rattle.storage_owner.proofs.owners.has_check.Given as goal

abbrev pub invariant-each : goal.invariant-each
invariant-each l = has_check (drop l.plan-index l.plans) ≡ has_check l.plans
