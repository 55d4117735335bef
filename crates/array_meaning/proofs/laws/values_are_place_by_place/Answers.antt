use Rattle.array_meaning.proofs.PlaceByPlace.{law}
use Rattle.array_meaning.proofs.CombinationByCombination as combinations
use Rattle.array_meaning.proofs.laws.values_are_place_by_place.Goals as goal

pub returns-clause-places : goal.returns-clause-places
returns-clause-places c = law

pub returns-clause-combinations : goal.returns-clause-combinations
returns-clause-combinations c = combinations.law
