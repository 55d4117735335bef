use Rattle.std.proofs.Common.{◌≡◌, All, [], map, drop}
use Rattle.ws_types.specs.Steps.{steps_after}
use Rattle.array_meaning.specs.Where.{run_steps}
use Rattle.term_eval.specs.Limits.{IsWorld}
use Rattle.step_eval.specs.Masked.{splits_of, IsEvaluated}
use Rattle.step_eval.specs.Events.{mask_of, event_of, IsSmallMaskOf}
use Rattle.step_eval.proofs.where_construct.run_events.Given as goal

abbrev pub invariant-loop-event : goal.invariant-loop-event
invariant-loop-event l = record {
  value : run_steps (l.fn.world, []) (steps_after [] (map event_of l.events)) ≡ run_steps (l.world, splits_of l.evaluated) (steps_after (map mask_of l.waiting.items) (map event_of (drop l.event-index l.events)));
  world : IsWorld l.world;
  evaluated : All IsEvaluated l.evaluated;
  waiting : All IsSmallMaskOf l.waiting.items;
}
