use Rattle.std.proofs.Common.{refl}
use Rattle.hlfir_meaning.proofs.Compute.{everything, rules_open}
use Rattle.hlfir_meaning.specs.RunsExamples.{bounds_handed_on, bounds_of_a_section, bounds_of_parentheses, scalar_to_nothing, never_allocated, allocated_too_large, later_item_sees_the_first, rest_of_a_line_is_skipped, item_that_is_no_number, later_item_reads_at_the_first, too_few_items, loop_that_counts_down, loop_that_leaves_the_range, regions_of_a_loop}
use Rattle.hlfir_meaning.proofs.examples.runs_examples.Goals as goal

pub returns-clause-bounds_handed_on : goal.returns-clause-bounds_handed_on
unfolding everything bounds_handed_on
returns-clause-bounds_handed_on c = refl

pub returns-clause-bounds_of_a_section : goal.returns-clause-bounds_of_a_section
unfolding everything bounds_of_a_section
returns-clause-bounds_of_a_section c = refl

pub returns-clause-bounds_of_parentheses : goal.returns-clause-bounds_of_parentheses
unfolding everything bounds_of_parentheses
returns-clause-bounds_of_parentheses c = refl

pub returns-clause-scalar_to_nothing : goal.returns-clause-scalar_to_nothing
unfolding everything scalar_to_nothing
returns-clause-scalar_to_nothing c = refl

pub returns-clause-never_allocated : goal.returns-clause-never_allocated
unfolding everything never_allocated
returns-clause-never_allocated c = refl

pub returns-clause-allocated_too_large : goal.returns-clause-allocated_too_large
unfolding everything allocated_too_large
returns-clause-allocated_too_large c = refl

pub returns-clause-later_item_sees_the_first : goal.returns-clause-later_item_sees_the_first
unfolding everything later_item_sees_the_first
returns-clause-later_item_sees_the_first c = refl

pub returns-clause-rest_of_a_line_is_skipped : goal.returns-clause-rest_of_a_line_is_skipped
unfolding everything rest_of_a_line_is_skipped
returns-clause-rest_of_a_line_is_skipped c = refl

pub returns-clause-item_that_is_no_number : goal.returns-clause-item_that_is_no_number
unfolding everything item_that_is_no_number
returns-clause-item_that_is_no_number c = refl

pub returns-clause-later_item_reads_at_the_first : goal.returns-clause-later_item_reads_at_the_first
unfolding everything later_item_reads_at_the_first
returns-clause-later_item_reads_at_the_first c = refl

pub returns-clause-too_few_items : goal.returns-clause-too_few_items
unfolding everything too_few_items
returns-clause-too_few_items c = refl

pub returns-clause-loop_that_counts_down : goal.returns-clause-loop_that_counts_down
unfolding everything loop_that_counts_down
returns-clause-loop_that_counts_down c = refl

pub returns-clause-loop_that_leaves_the_range : goal.returns-clause-loop_that_leaves_the_range
unfolding everything loop_that_leaves_the_range
returns-clause-loop_that_leaves_the_range c = refl

pub returns-clause-regions_of_a_loop : goal.returns-clause-regions_of_a_loop
unfolding everything regions_of_a_loop
returns-clause-regions_of_a_loop c = refl

pub returns-clause-rules : goal.returns-clause-rules
unfolding everything rules_open bounds_handed_on bounds_of_a_section bounds_of_parentheses scalar_to_nothing never_allocated allocated_too_large later_item_sees_the_first rest_of_a_line_is_skipped item_that_is_no_number later_item_reads_at_the_first too_few_items loop_that_counts_down loop_that_leaves_the_range regions_of_a_loop
returns-clause-rules c = refl
