use Rattle.std.proofs.Common.{refl}
use Rattle.hlfir_meaning.proofs.Compute.{everything}
use Rattle.hlfir_meaning.specs.SectionsExamples.{shift_by_one, scatter_with_a_repeat}
use Rattle.hlfir_meaning.specs.MasksExamples.{mask_of_masks}
use Rattle.hlfir_meaning.specs.RunsExamples.{later_item_sees_the_first, regions_of_a_loop}
use Rattle.hlfir_meaning.specs.EntriesExamples.{small_region, counted}
use Rattle.hlfir_meaning.proofs.examples.entries_examples.Goals as goal

pub returns : goal.returns
unfolding everything shift_by_one scatter_with_a_repeat regions_of_a_loop later_item_sees_the_first mask_of_masks small_region counted
returns c = record { one_region = refl; fault_inside = refl; each_iteration = refl; counts = refl; items_count_once = refl; masks_count_once = refl; past_the_limit = refl; at_the_limit = refl }
