use Rattle.std.proofs.Common.{refl}
use Rattle.hlfir_meaning.proofs.Compute.{everything, rules_open}
use Rattle.hlfir_meaning.specs.CombinationsExamples.{reverse_by_combinations, combinations_with_one_target, header_with_zero_stride, stride_before_the_next_index, masked_pairs, subscript_before_the_array, target_not_allocated}
use Rattle.hlfir_meaning.proofs.examples.combinations_examples.Goals as goal

pub returns : goal.returns
unfolding everything reverse_by_combinations combinations_with_one_target header_with_zero_stride stride_before_the_next_index masked_pairs subscript_before_the_array target_not_allocated rules_open
returns c = record { reverse_by_combinations = refl; combinations_with_one_target = refl; header_with_zero_stride = refl; stride_before_the_next_index = refl; masked_pairs = refl; subscript_before_the_array = refl; target_not_allocated = refl; rules = refl }
