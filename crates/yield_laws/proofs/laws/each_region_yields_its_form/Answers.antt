use Rattle.yield_laws.proofs.Modules.{yields_are_of_their_forms}
use Rattle.yield_laws.proofs.laws.each_region_yields_its_form.Goals as goal

pub returns : goal.returns
returns c = record { yields = yields_are_of_their_forms }
