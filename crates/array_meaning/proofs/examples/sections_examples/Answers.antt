use Rattle.std.proofs.Common.{refl}
use Rattle.array_meaning.proofs.Compute.{everything}
use Rattle.array_meaning.specs.SectionsExamples.{shift_by_one, reverse, add_the_first, odd_places_from_even, gather, scatter_with_a_repeat, sections_of_unequal_shape, empty_section_out_of_bounds, vector_subscript_out_of_bounds, vector_of_a_vector_out_of_bounds, masked_vector_in_parentheses, masked_sum_as_vector, vector_in_parentheses, columns_of_a_matrix, zero_stride_of_a_section, element_out_of_bounds}
use Rattle.array_meaning.proofs.examples.sections_examples.Goals as goal

pub returns : goal.returns
unfolding everything shift_by_one reverse add_the_first odd_places_from_even gather scatter_with_a_repeat sections_of_unequal_shape empty_section_out_of_bounds vector_subscript_out_of_bounds vector_of_a_vector_out_of_bounds masked_vector_in_parentheses masked_sum_as_vector vector_in_parentheses columns_of_a_matrix zero_stride_of_a_section element_out_of_bounds
returns c = record { shift_by_one = refl; reverse = refl; add_the_first = refl; odd_places_from_even = refl; gather = refl; scatter_with_a_repeat = refl; sections_of_unequal_shape = refl; empty_section_out_of_bounds = refl; vector_subscript_out_of_bounds = refl; vector_of_a_vector_out_of_bounds = refl; masked_vector_in_parentheses = refl; masked_sum_as_vector = refl; vector_in_parentheses = refl; columns_of_a_matrix = refl; zero_stride_of_a_section = refl; element_out_of_bounds = refl }
