use Rattle.std.proofs.Common.{refl}
use Rattle.hlfir_meaning.proofs.Compute.{everything, rules_open}
use Rattle.hlfir_meaning.specs.MasksExamples.{absolute_values, three_blocks, division_only_where_allowed, assignment_of_another_shape, mask_without_active_place, shape_in_a_sum_of_a_mask, mask_of_masks}
use Rattle.hlfir_meaning.proofs.examples.masks_examples.Goals as goal

pub returns : goal.returns
unfolding everything absolute_values three_blocks division_only_where_allowed assignment_of_another_shape mask_without_active_place shape_in_a_sum_of_a_mask mask_of_masks rules_open
returns c = record { absolute_values = refl; three_blocks = refl; division_only_where_allowed = refl; assignment_of_another_shape = refl; mask_without_active_place = refl; shape_in_a_sum_of_a_mask = refl; mask_of_masks = refl; rules = refl }
