use Rattle.std.proofs.Common.{◌≡◌, ◌++◌, drop}
use Rattle.std.specs.List.{flat_map}
use Rattle.alias_test.specs.Givers.{ops_at}
use Rattle.plan_text.specs.ScheduleText.{plan_text}
use Rattle.plan_text.proofs.scheduled.put_plans.Given as goal

abbrev pub invariant-each : goal.invariant-each
invariant-each l = l.initial.text.items ++ flat_map (plan_text (ops_at l.order) (ops_at l.givers)) l.plans ≡ l.text.items ++ flat_map (plan_text (ops_at l.order) (ops_at l.givers)) (drop l.plan-index l.plans)
