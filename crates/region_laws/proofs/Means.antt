-- The three laws in the words of `world_laws`.
use Rattle.world_laws.specs.Meanings.{ValuesMean, ListsMean, LeftsMean}
use Rattle.region_laws.proofs.Values.{sound-outside, values-mean}
use Rattle.region_laws.proofs.Lists.{lists-mean}
use Rattle.region_laws.proofs.LeftSides.{lefts-mean}

pub expressions_mean : ValuesMean
expressions_mean t line e s n w h grammar f = values-mean t line s n w h e (sound-outside t line s n w h e grammar f)

pub lists_mean : ListsMean
lists_mean t line es s n w vectors env h declares scalars own = lists-mean t line s n w h es vectors env declares scalars own

pub left_sides_mean : LeftsMean
left_sides_mean t line by_box e s n w h designator f = lefts-mean t line by_box s n w h e designator f
