use Rattle.std.proofs.Common.{refl}
use Rattle.hlfir_meaning.proofs.Compute.{everything, rules_open}
use Rattle.hlfir_meaning.specs.ArithmeticExamples.{first_operation_that_fails, minimum_and_product_of_little, exact_sum, sum_out_of_range, fault_inside_a_sum, sum_of_unequal_shapes, sum_before_the_others, calls_on_arrays, inquiries, bound_out_of_range}
use Rattle.hlfir_meaning.proofs.examples.arithmetic_examples.Goals as goal

pub returns : goal.returns
unfolding everything first_operation_that_fails minimum_and_product_of_little exact_sum sum_out_of_range fault_inside_a_sum sum_of_unequal_shapes sum_before_the_others calls_on_arrays inquiries bound_out_of_range rules_open
returns c = record { first_operation_that_fails = refl; minimum_and_product_of_little = refl; exact_sum = refl; sum_out_of_range = refl; fault_inside_a_sum = refl; sum_of_unequal_shapes = refl; sum_before_the_others = refl; calls_on_arrays = refl; inquiries = refl; bound_out_of_range = refl; rules = refl }
