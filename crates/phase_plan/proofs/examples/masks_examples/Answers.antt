use Rattle.std.proofs.Common.{refl}
use Rattle.phase_plan.proofs.Compute.{plans_open, rules_open}
use Rattle.phase_plan.specs.MasksExamples.{a_mask_of_known_shape, a_mask_with_a_reduction_of_gathered_elements, a_mask_of_a_where_that_has_ended, a_mask_that_does_not_control}
use Rattle.phase_plan.proofs.examples.masks_examples.Goals as goal

pub returns-clause-a_mask_of_known_shape : goal.returns-clause-a_mask_of_known_shape
unfolding plans_open a_mask_of_known_shape
returns-clause-a_mask_of_known_shape c = refl

pub returns-clause-a_mask_with_a_reduction_of_gathered_elements : goal.returns-clause-a_mask_with_a_reduction_of_gathered_elements
unfolding plans_open a_mask_with_a_reduction_of_gathered_elements
returns-clause-a_mask_with_a_reduction_of_gathered_elements c = refl

pub returns-clause-a_mask_of_a_where_that_has_ended : goal.returns-clause-a_mask_of_a_where_that_has_ended
unfolding plans_open a_mask_of_a_where_that_has_ended
returns-clause-a_mask_of_a_where_that_has_ended c = refl

pub returns-clause-a_mask_that_does_not_control : goal.returns-clause-a_mask_that_does_not_control
unfolding plans_open a_mask_that_does_not_control
returns-clause-a_mask_that_does_not_control c = refl

pub returns-clause-rules : goal.returns-clause-rules
unfolding plans_open rules_open a_mask_of_known_shape a_mask_with_a_reduction_of_gathered_elements a_mask_of_a_where_that_has_ended a_mask_that_does_not_control
returns-clause-rules c = refl
