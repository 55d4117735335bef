use Rattle.place_laws.proofs.FittingStatements.{lists_fit_in_order}
use Rattle.place_laws.proofs.laws.lists_hold_what_they_may.Goals as goal

pub returns : goal.returns
returns c = lists_fit_in_order
