use Rattle.yield_laws.proofs.Modules.{declares_fit_everywhere}
use Rattle.yield_laws.proofs.laws.each_declare_keeps_its_place.Goals as goal

pub returns : goal.returns
returns c = record { declares = declares_fit_everywhere }
