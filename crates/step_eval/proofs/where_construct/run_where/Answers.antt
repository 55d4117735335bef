use Rattle.std.proofs.Common.{ap, ◌∙◌, map}
use Rattle.step_eval.specs.Events.{event_of}
use Rattle.step_eval.proofs.SmallEvents.{events_small}
use Rattle.step_eval.proofs.where_construct.run_where.Goals as goal

pub run_events-requires-clause-small : goal.run_events-requires-clause-small
run_events-requires-clause-small c = events_small c.as_slice.result.now c.args.line c.args.body.now (ap (map event_of) c.as_slice.ensures.value ∙ c.in_ok-events.ensures) c.requires.small
