use Rattle.world_laws.proofs.Fitting.{takes_state}
use Rattle.run_laws.proofs.Opening.{opening_fits}
use Rattle.run_laws.proofs.laws.worlds_fit_names.Goals as goal

pub returns-clause-opening : goal.returns-clause-opening
returns-clause-opening c t accepted bytes = opening_fits t accepted bytes

pub returns-clause-states : goal.returns-clause-states
returns-clause-states c names w x s h f = takes_state names w x s h f
