-- FORALL means what its source means.
use Rattle.forall_laws.specs.Laws.{ForallsMean}
use Rattle.forall_laws.specs.Owned.{SubscriptsAreOwn}
use Rattle.region_laws.proofs.Means.{lists_mean}
use Rattle.region_laws.proofs.Lists.{subscripts-own}
use Rattle.forall_laws.proofs.Construct as construct

subscripts_are_own : SubscriptsAreOwn
subscripts_are_own t line es s n w h scalars = subscripts-own t line s n w h es scalars

pub foralls_mean : ForallsMean
foralls_mean = construct.foralls_mean lists_mean subscripts_are_own
