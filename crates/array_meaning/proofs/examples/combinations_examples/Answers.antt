use Rattle.std.proofs.Common.{refl}
use Rattle.array_meaning.proofs.Compute.{everything}
use Rattle.array_meaning.specs.CombinationsExamples.{reverse_by_combinations, combinations_with_one_target, header_with_zero_stride, masked_pairs, no_combination_and_no_target, target_not_allocated, bound_out_of_range_by_position, header_too_large}
use Rattle.array_meaning.proofs.examples.combinations_examples.Goals as goal

pub returns : goal.returns
unfolding everything reverse_by_combinations combinations_with_one_target header_with_zero_stride masked_pairs no_combination_and_no_target target_not_allocated bound_out_of_range_by_position header_too_large
returns c = record { reverse_by_combinations = refl; combinations_with_one_target = refl; header_with_zero_stride = refl; masked_pairs = refl; no_combination_and_no_target = refl; target_not_allocated = refl; bound_out_of_range_by_position = refl; header_too_large = refl }
