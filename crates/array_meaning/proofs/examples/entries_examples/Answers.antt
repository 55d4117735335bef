use Rattle.std.proofs.Common.{refl}
use Rattle.array_meaning.proofs.Compute.{everything}
use Rattle.array_meaning.specs.SectionsExamples.{shift_by_one, scatter_with_a_repeat}
use Rattle.array_meaning.specs.RunsExamples.{regions_of_a_loop}
use Rattle.array_meaning.specs.EntriesExamples.{nothing_declared, small_region, counted}
use Rattle.array_meaning.proofs.examples.entries_examples.Goals as goal

pub returns : goal.returns
unfolding everything shift_by_one scatter_with_a_repeat regions_of_a_loop nothing_declared small_region counted
returns c = record { one_region = refl; fault_inside = refl; each_iteration = refl; counts = refl; past_the_limit = refl; at_the_limit = refl }
