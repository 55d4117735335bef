use Rattle.std.proofs.Common.{refl}
use Rattle.array_meaning.proofs.Compute.{everything}
use Rattle.array_meaning.specs.RunsExamples.{bounds_handed_on, bounds_of_a_section, bounds_of_parentheses, scalar_to_nothing, never_allocated, allocated_twice, allocated_too_large, allocated_and_freed, freed_twice, size_of_nothing_allocated, bounds_of_an_empty_dimension, later_item_sees_the_first, rest_of_a_line_is_skipped, line_skipped_for_no_value, item_that_is_no_number, too_few_items, later_item_reads_at_the_first, loop_that_counts_down, loop_without_iteration, loop_that_leaves_the_range, regions_of_a_loop}
use Rattle.array_meaning.proofs.examples.runs_examples.Goals as goal

pub returns : goal.returns
unfolding everything bounds_handed_on bounds_of_a_section bounds_of_parentheses scalar_to_nothing never_allocated allocated_twice allocated_too_large allocated_and_freed freed_twice size_of_nothing_allocated bounds_of_an_empty_dimension later_item_sees_the_first rest_of_a_line_is_skipped line_skipped_for_no_value item_that_is_no_number too_few_items later_item_reads_at_the_first loop_that_counts_down loop_without_iteration loop_that_leaves_the_range regions_of_a_loop
returns c = record { bounds_handed_on = refl; bounds_of_a_section = refl; bounds_of_parentheses = refl; scalar_to_nothing = refl; never_allocated = refl; allocated_twice = refl; allocated_too_large = refl; allocated_and_freed = refl; freed_twice = refl; size_of_nothing_allocated = refl; bounds_of_an_empty_dimension = refl; later_item_sees_the_first = refl; rest_of_a_line_is_skipped = refl; line_skipped_for_no_value = refl; item_that_is_no_number = refl; too_few_items = refl; later_item_reads_at_the_first = refl; loop_that_counts_down = refl; loop_without_iteration = refl; loop_that_leaves_the_range = refl; regions_of_a_loop = refl }
