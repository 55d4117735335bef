use Rattle.step_eval.proofs.Headers.{chosen_combinations}
use Rattle.step_eval.proofs.forall.active_places.Goals as goal

pub returns-clause-combinations : goal.returns-clause-combinations
returns-clause-combinations c = chosen_combinations c.args.triplets.now c.args.places.now c.as_slice.result.now c.in_ok-chosen_places.field-0 c.in_ok-chosen_places.ensures.value c.requires.combinations
