use Rattle.std.proofs.Common.{drop}
use Rattle.step_eval.specs.Masked.{control_of}
use Rattle.step_eval.specs.Events.{stmts_events, elses_events}
use Rattle.step_eval.proofs.Followed.{Continues}
use Rattle.step_eval.proofs.events.+events.Given as goal

abbrev pub invariant-elses-elses_each : goal.invariant-elses-elses_each
invariant-elses-elses_each l = Continues l.initial.events.items l.events.items l.fn.number l.next (elses_events (control_of l.left) (drop l.part-index l.rest)) (elses_events (control_of l.fn.under) l.rest)

abbrev pub invariant-stmts-stmts_each : goal.invariant-stmts-stmts_each
invariant-stmts-stmts_each l = Continues l.initial.events.items l.events.items l.fn.number l.next (stmts_events (control_of l.under) (drop l.stmt-index l.block)) (stmts_events (control_of l.under) l.block)
