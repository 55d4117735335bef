use Rattle.std.proofs.Common.{refl}
use Rattle.hlfir_meaning.proofs.Compute.{everything, rules_open}
use Rattle.hlfir_meaning.specs.SectionsExamples.{shift_by_one, add_the_first, odd_places_from_even, gather, scatter_with_a_repeat, sections_of_unequal_shape, vector_subscript_out_of_bounds, vector_of_a_vector_out_of_bounds, masked_vector_in_parentheses, whole_subscript_before_the_next, subscripts_from_an_expression, omitted_bounds, zero_stride_of_a_section}
use Rattle.hlfir_meaning.proofs.examples.sections_examples.Goals as goal

pub returns-clause-shift_by_one : goal.returns-clause-shift_by_one
unfolding everything shift_by_one
returns-clause-shift_by_one c = refl

pub returns-clause-add_the_first : goal.returns-clause-add_the_first
unfolding everything add_the_first
returns-clause-add_the_first c = refl

pub returns-clause-odd_places_from_even : goal.returns-clause-odd_places_from_even
unfolding everything odd_places_from_even
returns-clause-odd_places_from_even c = refl

pub returns-clause-gather : goal.returns-clause-gather
unfolding everything gather
returns-clause-gather c = refl

pub returns-clause-scatter_with_a_repeat : goal.returns-clause-scatter_with_a_repeat
unfolding everything scatter_with_a_repeat
returns-clause-scatter_with_a_repeat c = refl

pub returns-clause-sections_of_unequal_shape : goal.returns-clause-sections_of_unequal_shape
unfolding everything sections_of_unequal_shape
returns-clause-sections_of_unequal_shape c = refl

pub returns-clause-vector_subscript_out_of_bounds : goal.returns-clause-vector_subscript_out_of_bounds
unfolding everything vector_subscript_out_of_bounds
returns-clause-vector_subscript_out_of_bounds c = refl

pub returns-clause-vector_of_a_vector_out_of_bounds : goal.returns-clause-vector_of_a_vector_out_of_bounds
unfolding everything vector_of_a_vector_out_of_bounds
returns-clause-vector_of_a_vector_out_of_bounds c = refl

pub returns-clause-masked_vector_in_parentheses : goal.returns-clause-masked_vector_in_parentheses
unfolding everything masked_vector_in_parentheses
returns-clause-masked_vector_in_parentheses c = refl

pub returns-clause-whole_subscript_before_the_next : goal.returns-clause-whole_subscript_before_the_next
unfolding everything whole_subscript_before_the_next
returns-clause-whole_subscript_before_the_next c = refl

pub returns-clause-subscripts_from_an_expression : goal.returns-clause-subscripts_from_an_expression
unfolding everything subscripts_from_an_expression
returns-clause-subscripts_from_an_expression c = refl

pub returns-clause-omitted_bounds : goal.returns-clause-omitted_bounds
unfolding everything omitted_bounds
returns-clause-omitted_bounds c = refl

pub returns-clause-zero_stride_of_a_section : goal.returns-clause-zero_stride_of_a_section
unfolding everything zero_stride_of_a_section
returns-clause-zero_stride_of_a_section c = refl

pub returns-clause-rules : goal.returns-clause-rules
unfolding everything rules_open shift_by_one add_the_first odd_places_from_even gather scatter_with_a_repeat sections_of_unequal_shape vector_subscript_out_of_bounds vector_of_a_vector_out_of_bounds masked_vector_in_parentheses whole_subscript_before_the_next subscripts_from_an_expression omitted_bounds zero_stride_of_a_section
returns-clause-rules c = refl
