use Rattle.std.proofs.Common.{refl}
use Rattle.hlfir_meaning.specs.SectionsExamples.{shift_by_one, scatter_with_a_repeat, sections_of_unequal_shape}
use Rattle.phase_plan.proofs.Compute.{plans_open, rules_open}
use Rattle.phase_plan.specs.AssignmentsExamples.{a_saved_right_side, targets_that_may_repeat, sides_of_unequal_shape, an_array_in_parentheses, a_vector_of_constants, one_element, an_empty_region}
use Rattle.phase_plan.proofs.examples.assignments_examples.Goals as goal

pub returns-clause-a_saved_right_side : goal.returns-clause-a_saved_right_side
unfolding plans_open a_saved_right_side shift_by_one
returns-clause-a_saved_right_side c = refl

pub returns-clause-targets_that_may_repeat : goal.returns-clause-targets_that_may_repeat
unfolding plans_open targets_that_may_repeat scatter_with_a_repeat
returns-clause-targets_that_may_repeat c = refl

pub returns-clause-sides_of_unequal_shape : goal.returns-clause-sides_of_unequal_shape
unfolding plans_open sides_of_unequal_shape sections_of_unequal_shape
returns-clause-sides_of_unequal_shape c = refl

pub returns-clause-an_array_in_parentheses : goal.returns-clause-an_array_in_parentheses
unfolding plans_open an_array_in_parentheses
returns-clause-an_array_in_parentheses c = refl

pub returns-clause-a_vector_of_constants : goal.returns-clause-a_vector_of_constants
unfolding plans_open a_vector_of_constants
returns-clause-a_vector_of_constants c = refl

pub returns-clause-one_element : goal.returns-clause-one_element
unfolding plans_open one_element
returns-clause-one_element c = refl

pub returns-clause-an_empty_region : goal.returns-clause-an_empty_region
unfolding plans_open an_empty_region
returns-clause-an_empty_region c = refl

pub returns-clause-rules : goal.returns-clause-rules
unfolding plans_open rules_open a_saved_right_side targets_that_may_repeat sides_of_unequal_shape an_array_in_parentheses a_vector_of_constants one_element an_empty_region shift_by_one scatter_with_a_repeat sections_of_unequal_shape
returns-clause-rules c = refl
