use Rattle.place_laws.proofs.Places.{wheres_fit, foralls_fit}
use Rattle.place_laws.proofs.laws.bodies_hold_what_they_may.Goals as goal

pub returns-clause-wheres : goal.returns-clause-wheres
returns-clause-wheres c = wheres_fit

pub returns-clause-foralls : goal.returns-clause-foralls
returns-clause-foralls c = foralls_fit
