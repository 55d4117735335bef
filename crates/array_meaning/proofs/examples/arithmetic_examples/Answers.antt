use Rattle.std.proofs.Common.{refl}
use Rattle.array_meaning.proofs.Compute.{everything}
use Rattle.array_meaning.specs.ArithmeticExamples.{whole_array_of_sevens, first_operation_that_fails, fault_inside_a_sum, minimum_and_product_of_little, signs_and_powers, exact_sum, sum_out_of_range, sum_of_unequal_shapes, totals_of_nothing, truth_values, merge_of_both, calls_on_numbers, operators_on_truth, powers_below_zero, power_of_zero_below_zero, power_out_of_range, totals_of_an_array, greatest_of_nothing, named_constants, two_statements_on_a_line, extent_out_of_range, sum_over_a_huge_extent, omitted_bound_out_of_range, bound_out_of_range}
use Rattle.array_meaning.proofs.examples.arithmetic_examples.Goals as goal

pub returns : goal.returns
unfolding everything whole_array_of_sevens first_operation_that_fails fault_inside_a_sum minimum_and_product_of_little signs_and_powers exact_sum sum_out_of_range sum_of_unequal_shapes totals_of_nothing truth_values merge_of_both calls_on_numbers operators_on_truth powers_below_zero power_of_zero_below_zero power_out_of_range totals_of_an_array greatest_of_nothing named_constants two_statements_on_a_line extent_out_of_range sum_over_a_huge_extent omitted_bound_out_of_range bound_out_of_range
returns c = record { whole_array_of_sevens = refl; first_operation_that_fails = refl; fault_inside_a_sum = refl; minimum_and_product_of_little = refl; signs_and_powers = refl; exact_sum = refl; sum_out_of_range = refl; sum_of_unequal_shapes = refl; totals_of_nothing = refl; truth_values = refl; merge_of_both = refl; calls_on_numbers = refl; operators_on_truth = refl; powers_below_zero = refl; power_of_zero_below_zero = refl; power_out_of_range = refl; totals_of_an_array = refl; greatest_of_nothing = refl; named_constants = refl; two_statements_on_a_line = refl; extent_out_of_range = refl; sum_over_a_huge_extent = refl; omitted_bound_out_of_range = refl; bound_out_of_range = refl }
