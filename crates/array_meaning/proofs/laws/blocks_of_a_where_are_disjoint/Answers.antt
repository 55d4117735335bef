use Rattle.array_meaning.proofs.Blocks.{all_places_once, chosen_once, blocks_are_all, blocks_are_disjoint}
use Rattle.array_meaning.proofs.laws.blocks_of_a_where_are_disjoint.Goals as goal

pub returns : goal.returns
returns c = record { places_once = all_places_once; chosen_once = chosen_once; all = blocks_are_all; disjoint = blocks_are_disjoint }
